-- What a draft stands for, and how edits lead from one model to the next.
use Rattle.std.specs.Prelude.{◌≡◌, ℕ, Bool, ◌&&◌, List, [], ◌∷◌, ◌++◌, length, Some, None, Option, nat_lt, if◌then◌else◌}
use Rattle.theory.specs.Model.{Model}
use Rattle.theory.specs.Edits.{Edit, edited}
use Rattle.draft.specs.declared.draft.Draft.{Draft}
use Rattle.draft.specs.Views.{view}

-- The project that a draft holds.
abbrev pub model : Draft → Model
model draft = view draft.parts.records.items draft.apart.flags draft.sets.items

-- Whatever edits brought the first model, with one edit more they bring the second.
abbrev pub Brings : Model → Edit → Model → Type 0
Brings before edit after = (edits : List Edit) → before ≡ edited edits → after ≡ edited (edits ++ edit ∷ [])

-- Whether two parts are apart, or none where one of them does not stand.
abbrev pub apart_answer : Model → ℕ → ℕ → Option Bool
apart_answer model a b = if nat_lt a (length model.parts) && nat_lt b (length model.parts) then Some (model.apart a b) else None
