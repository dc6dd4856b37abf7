-- The letters of the two scales are spelled so that printing and reading are inverse to each other. Assumes nothing.
use Rattle.std.specs.Prelude.{◌≡◌, ℕ, zero, suc, ◌<◌, Bool, true, false, cond, List, [], ◌∷◌, length, is_some, Some, None, codes, Option, ◌≢◌, nat_le, slice_index, refl}
use Rattle.std.proofs.Common.{sym, ap, ◌∙◌, arith, lit≤, lit<}
use Rattle.std.specs.Option.{option_map}
use Rattle.std.specs.List.{AllByRecursion}
use Rattle.std.specs.Str.{bytes_eq}
use Rattle.std.proofs.lemmas.Slice.Eq.{bytes_eq-Decides}
use Rattle.std.proofs.lemmas.Bool.{lt-leb}
use Rattle.standard.specs.Letters.{Word, asil_names, dal_names, printed, read_level, Capital, Spelling}
use Rattle.scale.proofs.Below.{false_from}

-- a word of one byte
pub one_byte : (word : Word) → length word ≡ 1 → word ≡ slice_index word 0 ∷ []
one_byte [] e = absurd (omega arith)
one_byte (b ∷ []) e = refl
one_byte (b ∷ d ∷ ds) e = absurd (omega arith)

-- a word of another length is another word
other_length : (word name : Word) → (length word ≢ length name) → bytes_eq word name ≡ false
other_length word name differ = sym (false_from (bytes_eq word name) (bytes_eq-Decides word name) (λ e. differ (ap length e)))

-- a word that is no name is read as none
read_none : (names : List Word) (word : Word) → AllByRecursion (λ name. bytes_eq word name ≡ false) names → None ≡ read_level names word
read_none [] word h = refl
read_none (name ∷ names) word h = rw (h.0, ← read_none names word h.1)

pub dal_other : (word : Word) → (length word ≢ 1) → None ≡ read_level dal_names word
dal_other word h =
    let long : (name : Word) → length name ≡ 1 → bytes_eq word name ≡ false = λ name one. other_length word name (λ e. h (e ∙ one)) in
    read_none dal_names word (long (codes "E") refl, (long (codes "D") refl, (long (codes "C") refl, (long (codes "B") refl, (long (codes "A") refl, tt)))))

pub asil_other : (word : Word) → (length word ≢ 1) → bytes_eq word (codes "QM") ≡ false → None ≡ read_level asil_names word
asil_other word h not-qm =
    let long : (name : Word) → length name ≡ 1 → bytes_eq word name ≡ false = λ name one. other_length word name (λ e. h (e ∙ one)) in
    read_none asil_names word (not-qm, (long (codes "A") refl, (long (codes "B") refl, (long (codes "C") refl, (long (codes "D") refl, tt)))))

-- a word that is read as a level is that level's name
module _ (name : Word) (names : List Word) (word : Word) (level : ℕ) where
  read_here : (t : Bool) (o : Option ℕ) → bytes_eq word name ≡ t → read_level names word ≡ o → ((k : ℕ) → read_level names word ≡ Some k → printed names k ≡ Some word) → cond t (Some 0) (option_map suc o) ≡ Some level → printed (name ∷ names) level ≡ Some word
  read_here true o same r rest e =
      let zeroth : 0 ≡ level = cc in
      ap (printed (name ∷ names)) (sym zeroth) ∙ ap Some (sym ((bytes_eq-Decides word name).0 same))
  read_here false None same r rest e = absurd (let z : ◌≡◌ {A = ℕ} 0 1 = cc in omega arith)
  read_here false (Some k) same r rest e =
      let later : suc k ≡ level = cc in
      ap (printed (name ∷ names)) (sym later) ∙ rest k r

prints_read : (names : List Word) (word : Word) (level : ℕ) → read_level names word ≡ Some level → printed names level ≡ Some word
prints_read [] word level e = absurd (let z : ◌≡◌ {A = ℕ} 0 1 = cc in omega arith)
prints_read (name ∷ names) word level e = read_here name names word level (bytes_eq word name) (read_level names word) refl refl (λ k. prints_read names word k) e

-- five names that are each read as their own level
module _ (a b c d e : Word) where
  abbrev all_five : List Word
  all_five = a ∷ b ∷ c ∷ d ∷ e ∷ []

  five : (level : ℕ) → is_some (printed all_five level) ≡ nat_le level 4
  five zero = refl
  five (suc zero) = refl
  five (suc (suc zero)) = refl
  five (suc (suc (suc zero))) = refl
  five (suc (suc (suc (suc zero)))) = refl
  five (suc (suc (suc (suc (suc n))))) = sym (lt-leb (suc (suc (suc (suc (suc n))))) 4 (omega arith))

  reads_printed : read_level all_five a ≡ Some 0 → read_level all_five b ≡ Some 1 → read_level all_five c ≡ Some 2 → read_level all_five d ≡ Some 3 → read_level all_five e ≡ Some 4 → (level : ℕ) (word : Word) → printed all_five level ≡ Some word → read_level all_five word ≡ Some level
  reads_printed h0 h1 h2 h3 h4 zero word p = let w : a ≡ word = cc in ap (read_level all_five) (sym w) ∙ h0
  reads_printed h0 h1 h2 h3 h4 (suc zero) word p = let w : b ≡ word = cc in ap (read_level all_five) (sym w) ∙ h1
  reads_printed h0 h1 h2 h3 h4 (suc (suc zero)) word p = let w : c ≡ word = cc in ap (read_level all_five) (sym w) ∙ h2
  reads_printed h0 h1 h2 h3 h4 (suc (suc (suc zero))) word p = let w : d ≡ word = cc in ap (read_level all_five) (sym w) ∙ h3
  reads_printed h0 h1 h2 h3 h4 (suc (suc (suc (suc zero)))) word p = let w : e ≡ word = cc in ap (read_level all_five) (sym w) ∙ h4
  reads_printed h0 h1 h2 h3 h4 (suc (suc (suc (suc (suc n))))) word p = absurd (let z : ◌≡◌ {A = ℕ} 0 1 = cc in omega arith)

one_capital : (b : ℕ) → Capital b → (0 < length (b ∷ [])) × AllByRecursion Capital (b ∷ [])
one_capital b h = (omega arith, (h, tt))

pub asil_spelling : Spelling asil_names
asil_spelling = record {
  five = five (codes "QM") (codes "A") (codes "B") (codes "C") (codes "D");
  reads_printed = reads_printed (codes "QM") (codes "A") (codes "B") (codes "C") (codes "D") refl refl refl refl refl;
  prints_read = prints_read asil_names;
  plain = ((lit< tt, ((lit≤ tt, lit≤ tt), ((lit≤ tt, lit≤ tt), tt))), (one_capital 65 (lit≤ tt, lit≤ tt), (one_capital 66 (lit≤ tt, lit≤ tt), (one_capital 67 (lit≤ tt, lit≤ tt), (one_capital 68 (lit≤ tt, lit≤ tt), tt)))));
}

pub dal_spelling : Spelling dal_names
dal_spelling = record {
  five = five (codes "E") (codes "D") (codes "C") (codes "B") (codes "A");
  reads_printed = reads_printed (codes "E") (codes "D") (codes "C") (codes "B") (codes "A") refl refl refl refl refl;
  prints_read = prints_read dal_names;
  plain = (one_capital 69 (lit≤ tt, lit≤ tt), (one_capital 68 (lit≤ tt, lit≤ tt), (one_capital 67 (lit≤ tt, lit≤ tt), (one_capital 66 (lit≤ tt, lit≤ tt), (one_capital 65 (lit≤ tt, lit≤ tt), tt)))));
}
