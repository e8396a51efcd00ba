-- What is written of a drawn value, from what is written of its parts.
use Rattle.std.proofs.Common.{◌≡◌, ℕ, List, ◌∷◌, ◌++◌, length, get_or, refl, ap, sym, ◌∙◌, append_assoc}
use Rattle.draws.specs.Draws.{next, drawn}
use Rattle.generator.specs.Drawing.{Draw, always, made, made_of_two, one_of, Writes}

abbrev Text : Type 0
Text = List ℕ

-- nothing was drawn
pub wrote_it : {X : Type 0} (text_of : X → Text) (x : X) (state : ℕ) (old new : Text) → new ≡ old ++ text_of x → Writes text_of (always x) state old state new
wrote_it text_of x state old new e = record { text = e; state = refl }

-- the choice with the drawn number was written
pub wrote_choice : {X : Type 0} (text_of : X → Text) (first : Draw X) (others : List (Draw X)) (state middle result number new_state : ℕ) (old new : Text)
    → middle ≡ next state → result ≡ drawn middle (length (first ∷ others)) → result ≡ number
    → Writes text_of (get_or (first ∷ others) number first) middle old new_state new → Writes text_of (one_of first others) state old new_state new
wrote_choice text_of first others state middle result number new_state old new e is k w =
    let at : one_of first others state ≡ get_or (first ∷ others) number first middle =
    ap (λ (m : ℕ). get_or (first ∷ others) (drawn m (length (first ∷ others))) first m) (sym e)
    ∙ ap (λ (n : ℕ). get_or (first ∷ others) n first middle) (sym is ∙ k) in
    record { text = w.text ∙ ap (λ p. old ++ text_of p.0) (sym at); state = w.state ∙ ap (λ p. p.1) (sym at) }

-- a drawn value was written between two texts
pub wrote_made : {X Y : Type 0} (text_x : X → Text) (text_y : Y → Text) (f : X → Y) (draw : Draw X) (front back : Text) (s₁ s₂ : ℕ) (t₀ t₁ t₂ t₃ : Text)
    → ((x : X) → text_y (f x) ≡ front ++ text_x x ++ back)
    → t₁ ≡ t₀ ++ front → Writes text_x draw s₁ t₁ s₂ t₂ → t₃ ≡ t₂ ++ back → Writes text_y (made f draw) s₁ t₀ s₂ t₃
wrote_made text_x text_y f draw front back s₁ s₂ t₀ t₁ t₂ t₃ texts e₁ w e₃ =
    let x = (draw s₁).0 in
    let behind : t₃ ≡ ((t₀ ++ front) ++ text_x x) ++ back = e₃ ∙ ap (λ t. t ++ back) (w.text ∙ ap (λ t. t ++ text_x x) e₁) in
    let regrouped : ((t₀ ++ front) ++ text_x x) ++ back ≡ t₀ ++ ((front ++ text_x x) ++ back) = simp append_assoc in
    record { text = behind ∙ regrouped ∙ ap (λ t. t₀ ++ t) (sym (texts x)); state = w.state }

-- two were, with a text between them
pub wrote_two : {X Y Z : Type 0} (text_x : X → Text) (text_y : Y → Text) (text_z : Z → Text) (f : X → Y → Z) (dx : Draw X) (dy : Draw Y) (front between back : Text)
    (s₁ s₂ s₃ : ℕ) (t₀ t₁ t₂ t₃ t₄ t₅ : Text)
    → ((x : X) (y : Y) → text_z (f x y) ≡ front ++ text_x x ++ between ++ text_y y ++ back)
    → t₁ ≡ t₀ ++ front → Writes text_x dx s₁ t₁ s₂ t₂ → t₃ ≡ t₂ ++ between → Writes text_y dy s₂ t₃ s₃ t₄ → t₅ ≡ t₄ ++ back
    → Writes text_z (made_of_two f dx dy) s₁ t₀ s₃ t₅
wrote_two text_x text_y text_z f dx dy front between back s₁ s₂ s₃ t₀ t₁ t₂ t₃ t₄ t₅ texts e₁ v e₃ w e₅ =
    let x = (dx s₁).0 in
    let y = (dy (dx s₁).1).0 in
    let second : t₄ ≡ t₃ ++ text_y y = w.text ∙ ap (λ s. t₃ ++ text_y (dy s).0) v.state in
    let first : t₂ ≡ (t₀ ++ front) ++ text_x x = v.text ∙ ap (λ t. t ++ text_x x) e₁ in
    let behind : t₅ ≡ ((((t₀ ++ front) ++ text_x x) ++ between) ++ text_y y) ++ back =
    e₅ ∙ ap (λ t. t ++ back) (second ∙ ap (λ t. t ++ text_y y) (e₃ ∙ ap (λ t. t ++ between) first)) in
    let regrouped : ((((t₀ ++ front) ++ text_x x) ++ between) ++ text_y y) ++ back ≡ t₀ ++ ((((front ++ text_x x) ++ between) ++ text_y y) ++ back) = simp append_assoc in
    record { text = behind ∙ regrouped ∙ ap (λ t. t₀ ++ t) (sym (texts x y)); state = w.state ∙ ap (λ s. (dy s).1) v.state }
