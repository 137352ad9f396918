use Rattle.std.proofs.Common.{◌≡◌, ◌+◌, ◌++◌, [], ◌∷◌, ◌<◌, length, arith}
use Rattle.std.proofs.lemmas.Grind.{common_steps}
use Rattle.kom_text.proofs.Cuts.{read-length, takes-token, takes-gap, whole}
use Rattle.kom_text.proofs.lexer.tokens.Goals as goal

pub first_piece-requires : goal.first_piece-requires
first_piece-requires c = let h = read-length _ _ _ _ _ c.loop-rest.invariant.read in omega (arith, h)

pub returns-in_default : goal.returns-in_default
returns-in_default c =
    let h = read-length _ _ _ _ _ c.loop-rest.invariant.read in
    let b : c.loop-rest.from < length c.args.text.now = grind (arith, common_steps, h) in
    (c.loop-rest.rest.now, c.loop-rest.list.items, c.loop-rest.too_big, c.loop-rest.invariant.read, b, c.in_default.ensures {u = tt})

pub overflow_cast-until : goal.overflow_cast-until
overflow_cast-until c = let h = read-length _ _ _ _ _ c.loop-rest.invariant.read in omega (arith, h, c.in-Some.ensures)

pub overflow_add-until : goal.overflow_add-until
overflow_add-until c = let h = read-length _ _ _ _ _ c.loop-rest.invariant.read in omega (arith, h, c.in-Some.ensures)

pub loop-rest-preserved-else-is_err : goal.loop-rest-preserved-else-is_err
loop-rest-preserved-else-is_err c = record {
  few = c.loop-rest.invariant.few;
  read = rw (c.first_too_big-too_big.ensures, pushed) (takes-token _ _ _ _ _ _ _ c.in-Some.piece c.in-Some-kind.kind c.loop-rest.invariant.read (c.in-Some.ensures {u = tt}) c.split_at.ensures.front c.split_at.ensures.back c.in-Some-kind.is);
}
  where
    pushed : c.push.new.self.items ≡ c.loop-rest.list.items ++ record { kind = c.in-Some-kind.kind; from = c.loop-rest.from; until = c.loop-rest.from + c.in-Some.piece.len } ∷ []
    pushed = grind (arith, common_steps, c.push.ensures.items)

pub loop-rest-preserved : goal.loop-rest-preserved
loop-rest-preserved c = record {
  few = c.loop-rest.invariant.few;
  read = rw c.first_too_big-too_big.ensures (takes-gap _ _ _ _ _ _ _ c.in-Some.piece c.loop-rest.invariant.read (c.in-Some.ensures {u = tt}) c.split_at.ensures.front c.split_at.ensures.back c.in_default-kind.is);
}

pub returns-in-Some-too_big : goal.returns-in-Some-too_big
returns-in-Some-too_big c = (c.loop-rest.list.items, rw (← c.in-Some-too_big.is) (whole _ _ _ _ _ c.loop-rest.invariant.read (grind (arith, common_steps))))

pub returns-in-None : goal.returns-in-None
returns-in-None c = rw (← c.in-None.is) (whole _ _ _ _ _ c.loop-rest.invariant.read (grind (arith, common_steps)))
