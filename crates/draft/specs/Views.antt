-- What the tables of a draft stand for in the model.
use Rattle.std.specs.Prelude.{Bool, List}
use Rattle.theory.specs.declared.part.Part.{Part}
use Rattle.theory.specs.Model.{CutSet, Model}
use Rattle.draft.specs.Apart.{apart_at}

-- The model of a table of parts, the flags of the pairs and a table of sets.
abbrev pub view : List Part → List (List Bool) → List CutSet → Model
view parts flags sets = record { parts = parts; apart = apart_at flags; sets = sets }
