-- A line's bytes cut into words at single spaces, and words put together again. Assumes nothing.
use Rattle.std.specs.Prelude.{◌≡◌, ℕ, false, if◌then◌else◌, List, [], ◌∷◌, ◌++◌, ◌==◌}

-- the bytes of a word
abbrev pub Word : Type 0
Word = List ℕ

-- what stands before the first byte b
abbrev pub up_to : ℕ → List ℕ → List ℕ
up_to b [] = []
up_to b (x ∷ xs) = if x == b then [] else x ∷ up_to b xs

-- what stands from the first byte b on
abbrev pub on_from : ℕ → List ℕ → List ℕ
on_from b [] = []
on_from b (x ∷ xs) = if x == b then x ∷ xs else on_from b xs

-- all but the first byte
abbrev pub past : List ℕ → List ℕ
past [] = []
past (x ∷ xs) = xs

-- a byte put in front of the first word
abbrev pub onto : ℕ → List Word → List Word
onto x [] = (x ∷ []) ∷ []
onto x (w ∷ ws) = (x ∷ w) ∷ ws

-- the words between single spaces (byte 32): one more than there are spaces
abbrev pub words_of : List ℕ → List Word
words_of [] = [] ∷ []
words_of (x ∷ xs) = if x == 32 then [] ∷ words_of xs else onto x (words_of xs)

-- the words of what stands after a word: none, or those behind its space
abbrev pub fields_of : List ℕ → List Word
fields_of [] = []
fields_of (x ∷ xs) = words_of xs

-- words behind a space each
abbrev pub spaced : List Word → List ℕ
spaced [] = []
spaced (w ∷ ws) = 32 ∷ (w ++ spaced ws)

-- words with single spaces between them
abbrev pub unwords : List Word → List ℕ
unwords [] = []
unwords (w ∷ ws) = w ++ spaced ws

-- no byte of a word is b
abbrev pub Lacks : ℕ → List ℕ → Type 0
Lacks b [] = Unit {0}
Lacks b (x ∷ xs) = ((x == b) ≡ false) × Lacks b xs
