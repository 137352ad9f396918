-- A refusal of the reader is one of the file.
use Rattle.std.proofs.Common.{◌≡◌, ◌<◌, ◌≤◌, ℕ, List, length, Option, Some, None, subst}
use Rattle.std.specs.Prelude.{IfSome}
use Rattle.kom_sysfile.specs.Answers.{IsRefusal}
use Rattle.kom_system.specs.Contents.{Contents}
use Rattle.kom_scenario.specs.Answers as scenario
use Rattle.kom_loading.specs.Loading.{IsRefused, too_long, breaks, file_limit}
use Rattle.kom_loading.specs.Scenarios as scenarios

pub refused : (text : List ℕ) (rule line column : ℕ) → length text ≤ file_limit → IsRefusal text rule line column → IsRefused text rule line column
refused text rule line column short r = breaks rule line column short r

pub over : (file : Option (List ℕ)) (text : List ℕ) → IfSome file (λ bytes. file_limit < length bytes) → file ≡ Some text → IsRefused text 1 1 1
over None text long is = absurd (cc)
over (Some bytes) text long is = let e : bytes ≡ text = cc in too_long (subst (λ (b : List ℕ). file_limit < length b) e long)

pub over_limit : (text : List ℕ) → file_limit < length text → IsRefused text 1 1 1
over_limit text h = too_long h

pub refused_for : (c : Contents) (text : List ℕ) (rule line column : ℕ) → length text ≤ file_limit → scenario.IsRefusal c text rule line column → scenarios.IsRefusedFor c text rule line column
refused_for c text rule line column short r = scenarios.breaks rule line column short r

pub over_for : (c : Contents) (file : Option (List ℕ)) (text : List ℕ) → IfSome file (λ bytes. file_limit < length bytes) → file ≡ Some text → scenarios.IsRefusedFor c text 1 1 1
over_for c None text long is = absurd (cc)
over_for c (Some bytes) text long is = let e : bytes ≡ text = cc in scenarios.too_long (subst (λ (b : List ℕ). file_limit < length b) e long)

pub over_limit_for : (c : Contents) (text : List ℕ) → file_limit < length text → scenarios.IsRefusedFor c text 1 1 1
over_limit_for c text h = scenarios.too_long h
