-- The line of a well-formed question is read as that question, and no other line is read so. Assumes nothing.
use Rattle.std.proofs.Common.{◌≡◌, ℕ, zero, suc, ◌+◌, ◌<◌, ◌≤◌, Bool, true, false, cond, ◌&&◌, ltb, leb, List, [], ◌∷◌, ◌++◌, map, length, Some, None, codes, sym, refl, ap, ◌∙◌, subst, arith}
use Rattle.either.specs.declared.Either.TheVariants.{Left, Right}
use Rattle.std.specs.List.{AllByRecursion}
use Rattle.std.specs.Str.{bytes_eq}
use Rattle.std.proofs.ByRecursion.{All-append, All-map, All-weaker}
use Rattle.std.proofs.lemmas.Slice.Eq.{bytes_eq-Decides}
use Rattle.std.proofs.lemmas.Bool.{and_parts, and_from, leb-true, le-leb, ltb-true, lt-ltb, ne_eqb}
use Rattle.standard.specs.Letters.{printed, read_level, Capital}
use Rattle.standard.specs.Standards.{Standard, standard_word, standard_of}
use Rattle.scale.proofs.Below.{false_from}
use Rattle.standard.proofs.WordsInverse.{words_inverse}
use Rattle.text.specs.Text.{Word, words_of, unwords, Lacks}
use Rattle.text.proofs.Cuts.{words_of_unwords, unwords_words_of}
use Rattle.assessment.specs.Scales.{level_names}
use Rattle.assessment.specs.Question.{Pair, Question, WellFormed, level_word, pair_word, words, render}
use Rattle.assessment.specs.Reading.{and_then, each, read_pair, up_to_slash, one_to_eight, read_members, read_question}
use Rattle.assessment.proofs.Asking.{by_pairs, by_members, by_required, by_standard}
use Rattle.assessment.proofs.Words.{some_none, and_then_only, passed, each_back, each_only, spelling_of, named, levels, TwoOf, pairs_of}

-- the name of a level is one or more capital letters
plain_name : (names : List Word) (level : ℕ) (w : Word) → AllByRecursion (λ name. (0 < length name) × AllByRecursion Capital name) names → printed names level ≡ Some w → (0 < length w) × AllByRecursion Capital w
plain_name [] level w h e = absurd (some_none w e)
plain_name (name ∷ names) zero w h e =
    let is : name ≡ w = cc in
    subst (λ v. (0 < length v) × AllByRecursion Capital v) is h.0
plain_name (name ∷ names) (suc level) w h e = plain_name names level w h.1 e

plain : (standard : Standard) (level : ℕ) → level ≤ 4 → (0 < length (level_word standard level)) × AllByRecursion Capital (level_word standard level)
plain standard level h = plain_name (level_names standard) level (level_word standard level) (spelling_of standard).plain (named standard level h)

capitals_lack : (w : Word) → AllByRecursion Capital w → Lacks 32 w
capitals_lack [] h = tt
capitals_lack (c ∷ cs) h = let low = h.0.0 in (ne_eqb c 32 (λ e. omega arith), capitals_lack cs h.1)

no_slash : (w : Word) → 0 < length w → AllByRecursion Capital w → bytes_eq w (codes "/") ≡ false
no_slash [] some h = absurd (omega arith)
no_slash (c ∷ cs) some h = sym (false_from (bytes_eq (c ∷ cs) (codes "/")) (bytes_eq-Decides (c ∷ cs) (codes "/")) (λ e. let is : c ≡ 47 = cc in let low = h.0.0 in omega arith))

-- the members and the slash
slash_back : (standard : Standard) (members : List ℕ) (ws : List Word) → AllByRecursion (λ level. level ≤ 4) members → up_to_slash (level_names standard) (map (level_word standard) members ++ codes "/" ∷ ws) ≡ Some (members, ws)
slash_back standard [] ws h = refl
slash_back standard (l ∷ ls) ws h =
    let p = plain standard l h.0 in
    let rest = map (level_word standard) ls ++ codes "/" ∷ ws in
    ap (λ t. cond t (Some ([], rest)) (and_then (read_level (level_names standard) (level_word standard l)) (λ level. and_then (up_to_slash (level_names standard) rest) (λ found. Some (level ∷ found.0, found.1))))) (no_slash (level_word standard l) p.0 p.1)
    ∙ ap (λ o. and_then o (λ level. and_then (up_to_slash (level_names standard) rest) (λ found. Some (level ∷ found.0, found.1)))) ((levels standard).back l h.0)
    ∙ ap (λ o. and_then o (λ found. Some (l ∷ found.0, found.1))) (slash_back standard ls ws h.1)

-- what was found before the slash and after it
record CutAtSlash (standard : Standard) (ws : List Word) (found : List ℕ × List Word) : Type 0 where
  pub is : map (level_word standard) found.0 ++ codes "/" ∷ found.1 ≡ ws
  pub fit : AllByRecursion (λ level. level ≤ 4) found.0

module _ (standard : Standard) (w : Word) (ws : List Word) (found : List ℕ × List Word) where
  slash_here : (t : Bool) → bytes_eq w (codes "/") ≡ t → cond t (Some ([], ws)) (and_then (read_level (level_names standard) w) (λ level. and_then (up_to_slash (level_names standard) ws) (λ found. Some (level ∷ found.0, found.1)))) ≡ Some found → ((f : List ℕ × List Word) → up_to_slash (level_names standard) ws ≡ Some f → CutAtSlash standard ws f) → CutAtSlash standard (w ∷ ws) found
  slash_here true same e rest =
      let is : ◌≡◌ {A = List ℕ × List Word} ([], ws) found = cc in
      subst (CutAtSlash standard (w ∷ ws)) is (record { is = ap (λ v. v ∷ ws) (sym ((bytes_eq-Decides w (codes "/")).0 same)); fit = tt })
  slash_here false same e rest =
      let a = and_then_only (read_level (level_names standard) w) (λ level. and_then (up_to_slash (level_names standard) ws) (λ found. Some (level ∷ found.0, found.1))) found e in
      let b = and_then_only (up_to_slash (level_names standard) ws) (λ found. Some (a.value ∷ found.0, found.1)) found a.more in
      let first = (levels standard).only w a.value a.was in
      let later = rest b.value b.was in
      let is : ◌≡◌ {A = List ℕ × List Word} (a.value ∷ b.value.0, b.value.1) found = cc b.more in
      subst (CutAtSlash standard (w ∷ ws)) is (record { is = (λ i. first.0 i ∷ later.is i); fit = (first.1, later.fit) })

slash_only : (standard : Standard) (ws : List Word) (found : List ℕ × List Word) → up_to_slash (level_names standard) ws ≡ Some found → CutAtSlash standard ws found
slash_only standard [] found e = absurd (some_none found e)
slash_only standard (w ∷ ws) found e = slash_here standard w ws found (bytes_eq w (codes "/")) refl e (slash_only standard ws)

-- a well-formed question's words are read as the question
pub words_back : (q : Question) → WellFormed q → read_question (words q) ≡ Some q
words_back q h =
    let st = q.standard in
    let ws = map (level_word st) q.members ++ codes "/" ∷ map pair_word q.pairs in
    let n = length q.members in
    let t : (ltb 0 n && leb n 8) ≡ true = and_from (ltb 0 n) (leb n 8) (lt-ltb 0 n h.some) (le-leb n 8 h.few) in
    ap (λ o. and_then o (by_standard (level_word st q.required) ws)) (words_inverse.reads_word st)
    ∙ ap (λ o. and_then o (by_required ws st)) ((levels st).back q.required h.top)
    ∙ ap (λ o. and_then (and_then o one_to_eight) (by_members st q.required)) (slash_back st q.members (map pair_word q.pairs) h.levels)
    ∙ ap (λ b. and_then (cond b (Some (q.members, map pair_word q.pairs)) None) (by_members st q.required)) t
    ∙ ap (λ o. and_then o (by_pairs st q.required q.members)) (each_back (pairs_of n) q.pairs h.different)

-- words that are read as a question are the words of that well-formed question
pub words_only : (ws : List Word) (q : Question) → read_question ws ≡ Some q → (words q ≡ ws) × WellFormed q
words_only [] q e = absurd (some_none q e)
words_only (scale ∷ []) q e = absurd (some_none q e)
words_only (scale ∷ level ∷ ws) q e =
    let a = and_then_only (standard_of scale) (by_standard level ws) q e in
    let st = a.value in
    let b = and_then_only (read_level (level_names st) level) (by_required ws st) q a.more in
    let c = and_then_only (read_members (level_names st) ws) (by_members st b.value) q b.more in
    let d = and_then_only (each (read_pair (length c.value.0)) c.value.1) (by_pairs st b.value c.value.0) q c.more in
    let s = and_then_only (up_to_slash (level_names st) ws) one_to_eight c.value c.was in
    let n = length s.value.0 in
    let p = passed (ltb 0 n && leb n 8) (Some s.value) c.value s.more in
    let one = and_parts (ltb 0 n) (leb n 8) p.0 in
    let found : s.value ≡ c.value = cc p.1 in
    let cut = subst (CutAtSlash st ws) found (slash_only st ws s.value s.was) in
    let top = (levels st).only level b.value b.was in
    let pairs = each_only (pairs_of (length c.value.0)) c.value.1 d.value d.was in
    let is : ◌≡◌ {A = Question} (record { standard = st; required = b.value; members = c.value.0; pairs = d.value }) q = cc d.more in
    subst (λ x. (words x ≡ scale ∷ level ∷ ws) × WellFormed x) is (
      (λ i. words_inverse.names_read scale st a.was i ∷ top.0 i ∷ (ap (λ us. map (level_word st) c.value.0 ++ codes "/" ∷ us) pairs.0 ∙ cut.is) i),
      record {
        top = top.1;
        levels = cut.fit;
        some = subst (λ (f : List ℕ × List Word). 0 < length f.0) found (ltb-true 0 n one.0);
        few = subst (λ (f : List ℕ × List Word). length f.0 ≤ 8) found (leb-true n 8 one.1);
        different = pairs.1;
      },
    )

-- no word of a well-formed question has a space
standard_lacks : (standard : Standard) → Lacks 32 (standard_word standard)
standard_lacks (Left a) = (refl, (refl, (refl, (refl, tt))))
standard_lacks (Right d) = (refl, (refl, (refl, tt)))

level_lacks : (standard : Standard) (level : ℕ) → level ≤ 4 → Lacks 32 (level_word standard level)
level_lacks standard level h = capitals_lack (level_word standard level) (plain standard level h).1

pair_lacks : (pair : Pair) → Lacks 32 (pair_word pair)
pair_lacks pair = (ne_eqb (48 + pair.0) 32 (λ e. omega arith), (refl, (ne_eqb (48 + pair.1) 32 (λ e. omega arith), tt)))

words_lack : (q : Question) → WellFormed q → AllByRecursion (Lacks 32) (words q)
words_lack q h =
    let st = q.standard in (
      standard_lacks st,
      (
        level_lacks st q.required h.top,
        All-append (Lacks 32) (map (level_word st) q.members) (codes "/" ∷ map pair_word q.pairs)
            (All-map (Lacks 32) (level_word st) q.members (All-weaker (λ level. level ≤ 4) (λ level. Lacks 32 (level_word st level)) (level_lacks st) q.members h.levels))
            ((refl, tt), All-map (Lacks 32) pair_word q.pairs (All-weaker (TwoOf (length q.members)) (λ pair. Lacks 32 (pair_word pair)) (λ pair _. pair_lacks pair) q.pairs h.different)),
      ),
    )

-- the line of a well-formed question is read as the question
pub line_back : (q : Question) → WellFormed q → read_question (words_of (render q)) ≡ Some q
line_back q h = ap read_question (words_of_unwords (words q) (omega arith) (words_lack q h)) ∙ words_back q h

-- a line that is read as a question is that well-formed question's line
pub line_only : (line : List ℕ) (q : Question) → read_question (words_of line) ≡ Some q → (line ≡ render q) × WellFormed q
line_only line q e =
    let p = words_only (words_of line) q e in
    (sym (ap unwords p.0 ∙ unwords_words_of line), p.1)
