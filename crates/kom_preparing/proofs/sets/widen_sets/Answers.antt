use Rattle.std.proofs.Common.{◌≤◌, arith}
use Rattle.kom_preparing.proofs.Roomy.{sets_wider, wider_self}
use Rattle.kom_preparing.proofs.sets.widen_sets.Goals as goal

pub returns-in_err-widen-clause-same : goal.returns-in_err-widen-clause-same
returns-in_err-widen-clause-same c =
    let v = c.args.run.now in
    let a = c.widen.ensures in
    sets_wider v v.busy c.widen.new.self v.marks (wider_self v.busy) (record { same = a.same; bound = a.not_less }) (wider_self v.marks)
    (λ h. let x = a.not_less in omega (arith, x, h))

pub returns-in_err-widen-2-clause-same : goal.returns-in_err-widen-2-clause-same
returns-in_err-widen-2-clause-same c =
    let v = c.args.run.now in
    let a = c.widen.ensures in
    let b = c.widen-2.ensures in
    sets_wider v v.busy c.widen.new.self c.widen-2.new.self (wider_self v.busy) (record { same = a.same; bound = a.not_less }) (record { same = b.same; bound = b.not_less })
    (λ h. let x = a.not_less in let y = b.not_more in let z = c.in_ok-widen.ensures.ok in omega (arith, x, y, z, h))

pub returns-in_err-widen-3-clause-same : goal.returns-in_err-widen-3-clause-same
returns-in_err-widen-3-clause-same c =
    let v = c.args.run.now in
    let a = c.widen.ensures in
    let b = c.widen-2.ensures in
    let d = c.widen-3.ensures in
    sets_wider v c.widen-3.new.self c.widen.new.self c.widen-2.new.self (record { same = d.same; bound = d.not_less }) (record { same = a.same; bound = a.not_less }) (record { same = b.same; bound = b.not_less })
    (λ h. let x = a.not_less in let y = b.not_more in let z = c.in_ok-widen.ensures.ok in omega (arith, x, y, z, h))

pub returns-clause-same : goal.returns-clause-same
returns-clause-same c =
    let v = c.args.run.now in
    let a = c.widen.ensures in
    let b = c.widen-2.ensures in
    let d = c.widen-3.ensures in
    sets_wider v c.widen-3.new.self c.widen.new.self c.widen-2.new.self (record { same = d.same; bound = d.not_less }) (record { same = a.same; bound = a.not_less }) (record { same = b.same; bound = b.not_less })
    (λ h. let x = a.not_less in let y = b.not_more in let z = c.in_ok-widen.ensures.ok in omega (arith, x, y, z, h))

pub returns-clause-busy : goal.returns-clause-busy
returns-clause-busy c = let a = c.bound-widest.ensures in let b = c.in_ok-widen-3.ensures.ok in omega (arith, a, b)
