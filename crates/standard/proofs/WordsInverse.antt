-- The words of the two standards are read and printed inversely. Assumes nothing.
use Rattle.std.proofs.Common.{◌≡◌, ℕ, Bool, true, false, cond, Some, None, codes, sym, refl, ap, ◌∙◌, arith}
use Rattle.either.specs.declared.Either.TheVariants.{Left, Right}
use Rattle.std.specs.Str.{bytes_eq}
use Rattle.std.proofs.lemmas.Slice.Eq.{bytes_eq-Decides}
use Rattle.standard.specs.Letters.{Word}
use Rattle.standard.specs.Standards.{Standard, automotive, avionics, standard_word, standard_of, WordsInverse}

reads_word : (standard : Standard) → standard_of (standard_word standard) ≡ Some standard
reads_word (Left a) = refl
reads_word (Right d) = refl

module _ (word : Word) (standard : Standard) where
  by_tests : (asil dal : Bool) → bytes_eq word (codes "asil") ≡ asil → bytes_eq word (codes "dal") ≡ dal → cond asil (Some automotive) (cond dal (Some avionics) None) ≡ Some standard → standard_word standard ≡ word
  by_tests true dal a d e = let is : automotive ≡ standard = cc in ap standard_word (sym is) ∙ sym ((bytes_eq-Decides word (codes "asil")).0 a)
  by_tests false true a d e = let is : avionics ≡ standard = cc in ap standard_word (sym is) ∙ sym ((bytes_eq-Decides word (codes "dal")).0 d)
  by_tests false false a d e = absurd (let z : ◌≡◌ {A = ℕ} 0 1 = cc in omega arith)

pub words_inverse : WordsInverse
words_inverse = record {
  reads_word = reads_word;
  names_read = λ word standard e. by_tests word standard (bytes_eq word (codes "asil")) (bytes_eq word (codes "dal")) refl refl e;
}
