-- The five edits of a project: what each answers and which model it leaves, for every input.
use Rattle.std.specs.Prelude.{◌≡◌, ℕ, zero, suc, Bool, true, if◌then◌else◌, not, ◌&&◌, ◌||◌, List, [], ◌∷◌, ◌++◌, length, Ok, Err, Result, ◌==◌, nat_le, nat_lt}
use Rattle.std.specs.List.{AllByRecursion, list_all}
use Rattle.cost.specs.declared.quote.Quote.{Quote}
use Rattle.cost.specs.Totals.{Fits32}
use Rattle.theory.specs.declared.part.Part.{Part}
use Rattle.theory.specs.declared.refusal.Refusal.{Refusal}
use Rattle.theory.specs.declared.refusal.Refusal.TheVariants.{TooManyParts, NoRange, NoSuchPart, SamePart, TooManySets, NoRequiredLevel, NoMemberCount, NotAscending, NoSuchSet, NotSettled, ShortBuffer}
use Rattle.theory.specs.Model.{CutSet, Model, empty_model}

-- The number of each refusal.
abbrev pub number : Refusal → ℕ
number TooManyParts = 1
number NoRange = 2
number NoSuchPart = 3
number SamePart = 4
number TooManySets = 5
number NoRequiredLevel = 6
number NoMemberCount = 7
number NotAscending = 8
number NoSuchSet = 9
number NotSettled = 10
number ShortBuffer = 11

-- An answer with a refusal given by its number.
abbrev pub numbered : {T : Type 0} → Result T Refusal → Result T ℕ
numbered (Ok x) = Ok x
numbered (Err refusal) = Err (number refusal)

-- What an edit answers, a refusal by its number, and the model that it leaves.
abbrev pub Outcome : Type 0 → Type 0
Outcome T = Result T ℕ × Model

-- A refused edit leaves the model as it was.
abbrev pub refuse : {T : Type 0} → ℕ → Model → Outcome T
refuse n model = (Err n, model)

-- A floor and a ceiling that are no range.
abbrev pub no_range : ℕ → ℕ → Bool
no_range floor ceiling = nat_lt 4 ceiling || nat_lt ceiling floor

-- A part is appended, apart from none, and its number answered.
abbrev pub part_call : Model → ℕ → ℕ → List Quote → Outcome ℕ
part_call model floor ceiling quotes =
    if nat_le 64 (length model.parts) then refuse 1 model
    else if no_range floor ceiling then refuse 2 model
    else (
      Ok (length model.parts),
      record {
        parts = model.parts ++ (record { floor = floor; ceiling = ceiling; quotes = quotes } ∷ []);
        apart = model.apart;
        sets = model.sets;
      },
    )

-- Part n has a new floor and ceiling; every other record stays.
abbrev pub ranged : List Part → ℕ → ℕ → ℕ → List Part
ranged [] n floor ceiling = []
ranged (p ∷ ps) zero floor ceiling = record { floor = floor; ceiling = ceiling; quotes = p.quotes } ∷ ps
ranged (p ∷ ps) (suc n) floor ceiling = p ∷ ranged ps n floor ceiling

-- A part gets another range.
abbrev pub range_call : Model → ℕ → ℕ → ℕ → Outcome (Unit {0})
range_call model n floor ceiling =
    if nat_le (length model.parts) n then refuse 3 model
    else if no_range floor ceiling then refuse 2 model
    else (Ok tt, record { parts = ranged model.parts n floor ceiling; apart = model.apart; sets = model.sets })

-- Two parts, in either order, are apart or not; every other pair stays.
abbrev pub declared : (ℕ → ℕ → Bool) → ℕ → ℕ → Bool → ℕ → ℕ → Bool
declared apart a b value x y = if (x == a && y == b) || (x == b && y == a) then value else apart x y

-- A pair is declared, or its declaration is taken back; doing either twice is accepted.
abbrev pub apart_call : Model → ℕ → ℕ → Bool → Outcome (Unit {0})
apart_call model a b value =
    if nat_le (length model.parts) a || nat_le (length model.parts) b then refuse 3 model
    else if a == b then refuse 4 model
    else (Ok tt, record { parts = model.parts; apart = declared model.apart a b value; sets = model.sets })

-- All members stand among n parts.
abbrev pub all_stand : ℕ → List ℕ → Bool
all_stand n = list_all (λ m. nat_lt m n)

-- Each member is below the next.
abbrev pub ascending : List ℕ → Bool
ascending [] = true
ascending (a ∷ []) = true
ascending (a ∷ b ∷ ms) = nat_lt a b && ascending (b ∷ ms)

-- A set is appended and its number answered.
abbrev pub cut_call : Model → ℕ → List ℕ → Outcome ℕ
cut_call model required members =
    if nat_le 128 (length model.sets) then refuse 5 model
    else if required == 0 || nat_lt 4 required then refuse 6 model
    else if length members == 0 || nat_lt 8 (length members) then refuse 7 model
    else if not (all_stand (length model.parts) members) then refuse 3 model
    else if not (ascending members) then refuse 8 model
    else (
      Ok (length model.sets),
      record {
        parts = model.parts;
        apart = model.apart;
        sets = model.sets ++ (record { required = required; members = members } ∷ []);
      },
    )

-- All sets but set n, each later one a number lower.
abbrev pub without : List CutSet → ℕ → List CutSet
without [] n = []
without (s ∷ ss) zero = ss
without (s ∷ ss) (suc n) = s ∷ without ss n

-- A set is dropped.
abbrev pub drop_call : Model → ℕ → Outcome (Unit {0})
drop_call model n =
    if nat_le (length model.sets) n then refuse 9 model
    else (Ok tt, record { parts = model.parts; apart = model.apart; sets = without model.sets n })

-- An edit, with what it is given.
pub data Edit : Type 0 where
  -- floor, ceiling and quotes
  part : ℕ → ℕ → List Quote → Edit
  -- part number, floor and ceiling
  range : ℕ → ℕ → ℕ → Edit
  -- two part numbers, and whether they are to be apart
  pair : ℕ → ℕ → Bool → Edit
  -- required level and members
  cut : ℕ → List ℕ → Edit
  -- set number
  drop_set : ℕ → Edit

-- The model that an edit leaves.
abbrev pub edit_model : Model → Edit → Model
edit_model model (part floor ceiling quotes) = (part_call model floor ceiling quotes).1
edit_model model (range n floor ceiling) = (range_call model n floor ceiling).1
edit_model model (pair a b value) = (apart_call model a b value).1
edit_model model (cut required members) = (cut_call model required members).1
edit_model model (drop_set n) = (drop_call model n).1

-- The model that a list of edits leads to from another.
abbrev pub edited_from : Model → List Edit → Model
edited_from model [] = model
edited_from model (e ∷ es) = edited_from (edit_model model e) es

-- The model that a list of edits brings.
abbrev pub edited : List Edit → Model
edited es = edited_from empty_model es

-- What a program can hand to an edit: a part has five quotes, of 32 bits.
abbrev pub Handed : Edit → Type 0
Handed (part floor ceiling quotes) = (length quotes ≡ 5) × AllByRecursion Fits32 quotes
Handed (range n floor ceiling) = Unit {0}
Handed (pair a b value) = Unit {0}
Handed (cut required members) = Unit {0}
Handed (drop_set n) = Unit {0}
