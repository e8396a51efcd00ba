-- The file's text so far, with that of the questions that are still to be drawn.
use Rattle.std.proofs.Common.{◌≡◌, ℕ, suc, ◌-◌, ◌%◌, ◌≤◌, List, ◌++◌, map, refl, ap, sym, ◌∙◌, append_assoc, arith}
use Rattle.written_files.specs.Files.{statement_text, file_text}
use Rattle.generator.specs.Drawing.{times, Writes}
use Rattle.generator.specs.Generated.{drawn_formula, declares, asks, question_text, generated}

abbrev pub rest : ℕ → ℕ → List ℕ
rest questions state = file_text (map asks (times questions (drawn_formula 3) state).0)

pub generated-text : (questions : ℕ) → file_text (generated questions) ≡ statement_text declares ++ rest questions questions
unfolding generated
generated-text questions = refl

pub one_question_more : (n m s₁ s₂ : ℕ) (t₁ t₂ whole : List ℕ) → n ≡ suc m → Writes question_text (drawn_formula 3) s₁ t₁ s₂ t₂
    → t₁ ++ rest n s₁ ≡ whole → t₂ ++ rest m s₂ ≡ whole
one_question_more n m s₁ s₂ t₁ t₂ whole e w is =
    let f = (drawn_formula 3 s₁).0 in
    ap (λ t. t ++ rest m s₂) w.text ∙ append_assoc t₁ (question_text f) (rest m s₂)
    ∙ ap (λ (s : ℕ). t₁ ++ (question_text f ++ rest m s)) w.state ∙ ap (λ (k : ℕ). t₁ ++ rest k s₁) (sym e) ∙ is

pub begun : (questions state : ℕ) (t : List ℕ) → questions ≤ 1000 → state ≡ questions % 53125 → t ≡ statement_text declares
    → t ++ rest (questions - 0) state ≡ file_text (generated questions)
begun questions state t few is e =
    let all : questions - 0 ≡ questions = omega arith in
    let same : questions % 53125 ≡ questions = omega arith in
    ap (λ (u : List ℕ). u ++ rest (questions - 0) state) e
    ∙ ap (λ (n : ℕ). statement_text declares ++ rest n state) all
    ∙ ap (λ (s : ℕ). statement_text declares ++ rest questions s) (is ∙ same) ∙ sym (generated-text questions)
