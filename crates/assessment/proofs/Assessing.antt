-- What a line is answered with, by what it asks. Assumes nothing.
use Rattle.std.proofs.Common.{◌≡◌, ◌↔◌, ℕ, Bool, true, false, cond, List, length, Some, None, Option, sym, refl, ap, ◌∙◌, subst, arith}
use Rattle.std.specs.Option.{option_map}
use Rattle.std.proofs.lemmas.Bool.{true≢false, false≢true}
use Rattle.scale.specs.Question.{answer}
use Rattle.standard.specs.Standards.{Standard}
use Rattle.text.specs.Text.{words_of}
use Rattle.assessment.specs.declared.Assessment.{Assessment}
use Rattle.assessment.specs.declared.Assessment.TheVariants.{Met, NotMet, Refused}
use Rattle.assessment.specs.Scales.{meaning_of}
use Rattle.assessment.specs.Question.{Question, WellFormed, render, Asks, AsksNothing}
use Rattle.assessment.specs.Reading.{read_question, rows_of, asked, answered, assessed}
use Rattle.assessment.proofs.Declarations.{rows_declare, only_rows}
use Rattle.assessment.proofs.Words.{some_none}
use Rattle.assessment.proofs.Rendering.{line_back, line_only}

-- the scale's answer to a question
abbrev answer_to : Question → Bool
answer_to q = answer (meaning_of q.standard) q.required q.members (rows_of q.pairs (length q.members))

-- an answer, by what the line asks
pub record Told (line : List ℕ) (r : Assessment) : Type 0 where
  pub met : (r ≡ Met) ↔ Asks line true
  pub not_met : (r ≡ NotMet) ↔ Asks line false
  pub refused : (r ≡ Refused) ↔ AsksNothing line

module _ (line : List ℕ) where
  -- a line that is read as a question asks it
  read_asks : (q : Question) (t : Bool) → read_question (words_of line) ≡ Some q → answer_to q ≡ t → Asks line t
  read_asks q t e is =
      let p = line_only line q e in
      record { question = q; well_formed = p.1; rendered = p.0; rows = rows_of q.pairs (length q.members); declares = rows_declare q.pairs (length q.members); answered = is }

  -- a line that writes a question is read as it
  rendered_read : (q : Question) → WellFormed q → line ≡ render q → read_question (words_of line) ≡ Some q
  rendered_read q h e = ap (λ l. read_question (words_of l)) e ∙ line_back q h

  asks_answer : (t : Bool) (a : Asks line t) → answer_to a.question ≡ t
  asks_answer t a =
      let q = a.question in
      ap (answer (meaning_of q.standard) q.required q.members) (sym (only_rows q.pairs (length q.members) a.rows a.declares)) ∙ a.answered

  -- where it is read as none, nothing is asked
  none_asked : read_question (words_of line) ≡ None → (t : Bool) → Asks line t → ⊥
  none_asked e t a = some_none a.question (sym e ∙ rendered_read a.question a.well_formed a.rendered)

  -- where it is read as a question, no other is asked, so that there is one answer
  one_answer : (q : Question) → read_question (words_of line) ≡ Some q → (t : Bool) → Asks line t → answer_to q ≡ t
  one_answer q e t a =
      let f = sym e ∙ rendered_read a.question a.well_formed a.rendered in
      let is : q ≡ a.question = cc in
      ap answer_to is ∙ asks_answer t a

  nothing_read : AsksNothing line → (q : Question) → read_question (words_of line) ≡ Some q → ⊥
  nothing_read h q e = let p = line_only line q e in h q p.1 p.0

  told_answer : (q : Question) (t : Bool) → read_question (words_of line) ≡ Some q → answer_to q ≡ t → Told line (cond t Met NotMet)
  told_answer q true e is = record {
    met = ((λ _. read_asks q true e is), (λ _. refl));
    not_met = ((λ f. absurd (let z : ◌≡◌ {A = ℕ} 0 1 = cc in omega arith)), (λ a. absurd (true≢false (sym is ∙ one_answer q e false a))));
    refused = ((λ f. absurd (let z : ◌≡◌ {A = ℕ} 0 1 = cc in omega arith)), (λ h. absurd (nothing_read h q e)));
  }
  told_answer q false e is = record {
    met = ((λ f. absurd (let z : ◌≡◌ {A = ℕ} 0 1 = cc in omega arith)), (λ a. absurd (false≢true (sym is ∙ one_answer q e true a))));
    not_met = ((λ _. read_asks q false e is), (λ _. refl));
    refused = ((λ f. absurd (let z : ◌≡◌ {A = ℕ} 0 1 = cc in omega arith)), (λ h. absurd (nothing_read h q e)));
  }

  told_by : (o : Option Question) → read_question (words_of line) ≡ o → Told line (answered o)
  told_by None e = record {
    met = ((λ f. absurd (let z : ◌≡◌ {A = ℕ} 0 1 = cc in omega arith)), (λ a. absurd (none_asked e true a)));
    not_met = ((λ f. absurd (let z : ◌≡◌ {A = ℕ} 0 1 = cc in omega arith)), (λ a. absurd (none_asked e false a)));
    refused = ((λ _ q h is. some_none q (sym e ∙ rendered_read q h is)), (λ _. refl));
  }
  told_by (Some q) e = told_answer q (answer_to q) e refl

  pub told : (r : Assessment) → r ≡ assessed line → Told line r
  told r e = subst (Told line) (sym e) (told_by (read_question (words_of line)) refl)

-- what the reader hands over, and the answer by it
pub answers_none : (o : Option Question) → None ≡ option_map asked o → Refused ≡ answered o
answers_none None e = refl
answers_none (Some q) e = absurd (let z : ◌≡◌ {A = ℕ} 0 1 = cc in omega arith)

pub answers_some : (o : Option Question) (standard : Standard) (required : ℕ) (members rows : List ℕ) (t : Bool) → Some (standard, required, members, rows) ≡ option_map asked o → t ≡ answer (meaning_of standard) required members rows → cond t Met NotMet ≡ answered o
answers_some None standard required members rows t e is = absurd (let z : ◌≡◌ {A = ℕ} 0 1 = cc in omega arith)
answers_some (Some q) standard required members rows t e is =
    let same : ◌≡◌ {A = Standard × ℕ × List ℕ × List ℕ} (standard, required, members, rows) (asked q) = cc in
    ap (λ b. cond b Met NotMet) (is ∙ ap (λ (x : Standard × ℕ × List ℕ × List ℕ). answer (meaning_of x.0) x.1 x.2 x.3) same)
