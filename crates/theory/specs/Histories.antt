-- Histories of a project: the moves that are made of it, where they lead, and what holds there.
use Rattle.std.specs.Prelude.{◌≡◌, ℕ, ◌+◌, List, [], ◌∷◌, ◌++◌}
use Rattle.std.specs.List.{AllByRecursion}
use Rattle.scale.specs.Question.{Meaning, Laws}
use Rattle.cost.specs.Laws.{CostLaws}
use Rattle.theory.specs.Model.{Model, empty_model, Sound}
use Rattle.theory.specs.Edits.{Edit, edit_model, edited, Handed}
use Rattle.theory.specs.Allocations.{Rule}
use Rattle.theory.specs.Walks.{Walk, new_walk, work, told}
use Rattle.theory.specs.Promise.{Promised, Right}

-- The scales and the cost rules that a search can be opened with, each rule with its own type of amounts.
pub record Catalogue : Type 1 where
  pub Scales : Type 0
  pub Rules : Type 0
  pub Amount : Rules → Type 0
  pub means : Scales → Meaning
  pub rule : (r : Rules) → Rule (Amount r)

-- The laws of all of them.
pub record Lawful (c : Catalogue) : Type 0 where
  pub scales : (s : c.Scales) → Laws (c.means s)
  pub rules : (r : c.Rules) → CostLaws (c.rule r).joined (c.rule r).lesser

-- A move: an edit, opening with a scale and a rule, working with a grant, asking for the plan with a buffer's length, handing back.
pub data Move (c : Catalogue) : Type 0 where
  edit : Edit → Move c
  start : c.Scales → c.Rules → Move c
  grant : ℕ → Move c
  ask : ℕ → Move c
  back : Move c

-- What stands: a draft, or the search of it.
pub data Standing (c : Catalogue) : Type 0 where
  draft : Model → Standing c
  opened : Model → c.Scales → (r : c.Rules) → Walk (c.Amount r) → Standing c

-- An edit among moves is one that a program can make.
abbrev pub HandedMove : {c : Catalogue} → Move c → Type 0
HandedMove (edit e) = Handed e
HandedMove (start s r) = Unit {0}
HandedMove (grant k) = Unit {0}
HandedMove (ask n) = Unit {0}
HandedMove back = Unit {0}

module _ {c : Catalogue} where
  -- One move; what does not fit the moment changes nothing.
  abbrev pub moved : Standing c → Move c → Standing c
  moved (draft model) (edit e) = draft (edit_model model e)
  moved (draft model) (start s r) = opened model s r new_walk
  moved (draft model) (grant k) = draft model
  moved (draft model) (ask n) = draft model
  moved (draft model) back = draft model
  moved (opened model s r walk) (edit e) = opened model s r walk
  moved (opened model s r walk) (start s' r') = opened model s r walk
  moved (opened model s r walk) (grant k) = opened model s r (work (c.means s) (c.rule r) model k walk)
  moved (opened model s r walk) (ask n) = opened model s r walk
  moved (opened model s r walk) back = draft model

  -- Where a list of moves leads.
  abbrev pub run : Standing c → List (Move c) → Standing c
  run standing [] = standing
  run standing (m ∷ ms) = run (moved standing m) ms

  -- The steps that a move grants.
  abbrev pub grant_of : Move c → ℕ
  grant_of (edit e) = 0
  grant_of (start s r) = 0
  grant_of (grant k) = k
  grant_of (ask n) = 0
  grant_of back = 0

  -- The steps granted since the last opening, where g were granted before.
  abbrev pub granted : ℕ → Standing c → List (Move c) → ℕ
  granted g standing [] = g
  granted g (draft model) (m ∷ ms) = granted 0 (moved (draft model) m) ms
  granted g (opened model s r walk) (m ∷ ms) = granted (g + grant_of m) (moved (opened model s r walk) m) ms

  -- The edits of a move that counts as one.
  abbrev pub edits_of : Standing c → Move c → List Edit
  edits_of (draft model) (edit e) = e ∷ []
  edits_of (draft model) (start s r) = []
  edits_of (draft model) (grant k) = []
  edits_of (draft model) (ask n) = []
  edits_of (draft model) back = []
  edits_of (opened model s r walk) m = []

  -- The edits that count: those made while the project is not open.
  abbrev pub counting : Standing c → List (Move c) → List Edit
  counting standing [] = []
  counting standing (m ∷ ms) = edits_of standing m ++ counting (moved standing m) ms

  -- The model of what stands.
  abbrev pub model_of : Standing c → Model
  model_of (draft model) = model
  model_of (opened model s r walk) = model

  -- What holds of a search that stands, after some steps were granted since its opening.
  abbrev pub SearchRight : ℕ → Standing c → Type 0
  SearchRight g (draft model) = Unit {0}
  SearchRight g (opened model s r walk) =
      (walk ≡ work (c.means s) (c.rule r) model g new_walk)
      × Promised (c.means s) (c.rule r) model g (told (c.means s) (c.rule r) model walk)
      × Right (c.means s) (c.rule r) model walk

-- What holds where a list of moves from the empty project leads.
pub record StandingRight {c : Catalogue} (moves : List (Move c)) : Type 0 where
  pub sound : Sound (model_of (run (draft empty_model) moves))
  pub by_edits : model_of (run (draft empty_model) moves) ≡ edited (counting (draft empty_model) moves)
  pub search : SearchRight (granted 0 (draft empty_model) moves) (run (draft empty_model) moves)

-- That holds of every list of moves that a program can make.
abbrev pub HistoriesRight : Catalogue → Type 0
HistoriesRight c = Lawful c → (moves : List (Move c)) → AllByRecursion HandedMove moves → StandingRight moves
