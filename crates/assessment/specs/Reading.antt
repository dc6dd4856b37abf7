-- What a line is read as, word by word, and what it is answered with. Assumes nothing.
use Rattle.std.specs.Prelude.{ℕ, ◌-◌, Bool, false, if◌then◌else◌, ◌&&◌, ◌||◌, List, [], ◌∷◌, map, length, Some, None, codes, Option, ◌==◌, nat_le, nat_lt}
use Rattle.std.specs.List.{range_with_len}
use Rattle.std.specs.Str.{bytes_eq}
use Rattle.standard.specs.Letters.{read_level}
use Rattle.scale.specs.Question.{answer}
use Rattle.scale.specs.Rows.{row_of}
use Rattle.standard.specs.Standards.{Standard, standard_of}
use Rattle.text.specs.Text.{Word, words_of}
use Rattle.assessment.specs.declared.Assessment.{Assessment}
use Rattle.assessment.specs.declared.Assessment.TheVariants.{Met, NotMet, Refused}
use Rattle.assessment.specs.Scales.{level_names, meaning_of}
use Rattle.assessment.specs.Question.{Pair, Question}

-- what comes of a value, or none where there is none
abbrev pub and_then : {T U : Type 0} → Option T → (T → Option U) → Option U
and_then None f = None
and_then (Some x) f = f x

-- every word read by itself, or none where one is not read
abbrev pub each : {T : Type 0} → (Word → Option T) → List Word → Option (List T)
each read [] = Some []
each read (w ∷ ws) = and_then (read w) (λ x. and_then (each read ws) (λ xs. Some (x ∷ xs)))

-- the member, among n, whose number a digit is
abbrev pub read_member : ℕ → ℕ → Option ℕ
read_member n c = if nat_le 48 c && nat_lt (c - 48) n then Some (c - 48) else None

-- two different members
abbrev pub two_members : Option ℕ → Option ℕ → Option Pair
two_members i j = and_then i (λ i. and_then j (λ j. if i == j then None else Some (i, j)))

-- the pair that a word is: a member, a dash and another member
abbrev pub read_pair : ℕ → Word → Option Pair
read_pair n [] = None
read_pair n (i ∷ []) = None
read_pair n (i ∷ dash ∷ []) = None
read_pair n (i ∷ dash ∷ j ∷ []) = if dash == 45 then two_members (read_member n i) (read_member n j) else None
read_pair n (i ∷ dash ∷ j ∷ more ∷ rest) = None

-- the levels that the words before the slash name, and the words after it
abbrev pub up_to_slash : List Word → List Word → Option (List ℕ × List Word)
up_to_slash names [] = None
up_to_slash names (w ∷ ws) =
    if bytes_eq w (codes "/") then Some ([], ws)
    else and_then (read_level names w) (λ level. and_then (up_to_slash names ws) (λ found. Some (level ∷ found.0, found.1)))

-- what was found, if it is one to eight levels
abbrev pub one_to_eight : List ℕ × List Word → Option (List ℕ × List Word)
one_to_eight found = if nat_lt 0 (length found.0) && nat_le (length found.0) 8 then Some found else None

-- the levels of one to eight members, and the words after the slash
abbrev pub read_members : List Word → List Word → Option (List ℕ × List Word)
read_members names ws = and_then (up_to_slash names ws) one_to_eight

-- the question that words write, or none
abbrev pub read_question : List Word → Option Question
read_question [] = None
read_question (scale ∷ []) = None
read_question (scale ∷ level ∷ ws) =
    and_then (standard_of scale) (λ standard.
    and_then (read_level (level_names standard) level) (λ required.
    and_then (read_members (level_names standard) ws) (λ found.
    and_then (each (read_pair (length found.0)) found.1) (λ pairs.
    Some (record { standard = standard; required = required; members = found.0; pairs = pairs })))))

-- whether a pair is of the members i and k, in either order
abbrev pub is_of : Pair → ℕ → ℕ → Bool
is_of pair i k = (pair.0 == i && pair.1 == k) || (pair.0 == k && pair.1 == i)

-- whether members i and k are declared independent
abbrev pub declared : List Pair → ℕ → ℕ → Bool
declared [] i k = false
declared (pair ∷ pairs) i k = is_of pair i k || declared pairs i k

-- the rows of n members: bit k of row i is set where i and k are declared independent, and no other
abbrev pub rows_of : List Pair → ℕ → List ℕ
rows_of pairs n = map (λ i. row_of (declared pairs i) 8) (range_with_len 0 n)

-- what the standard's scale is asked: the required level, the members' levels and their rows
abbrev pub asked : Question → Standard × ℕ × List ℕ × List ℕ
asked question = (question.standard, question.required, question.members, rows_of question.pairs (length question.members))

-- what a question is answered with
abbrev pub answered : Option Question → Assessment
answered None = Refused
answered (Some question) =
    if answer (meaning_of question.standard) question.required question.members (rows_of question.pairs (length question.members)) then Met else NotMet

-- what a line is answered with
abbrev pub assessed : List ℕ → Assessment
assessed line = answered (read_question (words_of line))
