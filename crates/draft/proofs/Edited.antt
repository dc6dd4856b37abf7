-- What the library's edits of a list are in the theory's words. Assumes nothing.
use Rattle.std.proofs.Common.{◌≡◌, ℕ, zero, suc, ◌<◌, List, [], ◌∷◌, length, get_or, set, refl, ap, arith}
use Rattle.std.specs.List.{remove}
use Rattle.theory.specs.declared.part.Part.{Part}
use Rattle.theory.specs.Model.{CutSet}
use Rattle.theory.specs.Edits.{ranged, without}

-- writing one record is changing that range
pub ranged_set : (ps : List Part) (n floor ceiling : ℕ) (old : Part) → n < length ps → old ≡ get_or ps n old → set ps n (record { floor = floor; ceiling = ceiling; quotes = old.quotes }) ≡ ranged ps n floor ceiling
ranged_set [] n floor ceiling old h is = absurd (omega arith)
ranged_set (p ∷ ps) zero floor ceiling old h is = ap (λ (q : Part). record { floor = floor; ceiling = ceiling; quotes = q.quotes } ∷ ps) is
ranged_set (p ∷ ps) (suc n) floor ceiling old h is = ap (λ qs. p ∷ qs) (ranged_set ps n floor ceiling old (omega arith) is)

-- removing one entry is dropping that set
pub removed_without : (ss : List CutSet) (n : ℕ) → remove ss n ≡ without ss n
removed_without [] zero = refl
removed_without [] (suc n) = refl
removed_without (s ∷ ss) zero = refl
removed_without (s ∷ ss) (suc n) = ap (λ ts. s ∷ ts) (removed_without ss n)
