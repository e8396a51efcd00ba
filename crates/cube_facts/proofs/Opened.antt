-- An opened cube holds where some values of its last free variables make it hold.
use Rattle.std.proofs.Common.{ℕ, ◌≡◌, ◌+◌, ◌-◌, ◌∙◌, sym, subst, arith, refl}
use Rattle.classical.proofs.Stable.{◌>>=◌}
use Rattle.flat_form.specs.Meanings.{AllFail}
use Rattle.cube_facts.specs.Raws.{OpenedMeans}

pub opened_means : OpenedMeans
opened_means σ quantified cube e within =
    let same : cube.free - quantified + (quantified + cube.outer) ≡ cube.free + cube.outer = omega arith in (
      (λ holds out. do
        (d, (like, h, fail)) ← holds
        out (d, (like, λ none. none (d, ((λ v w path. refl), h, subst (λ (n : ℕ). AllFail n d cube.parts) same fail))))),
      (λ holds out. do
        (d, (like, inner)) ← holds
        (z, (on, h, fail)) ← inner
        out (z, ((λ v w path. on v (omega (arith, w, within)) path ∙ like v w path), h, subst (λ (n : ℕ). AllFail n z cube.parts) (sym same) fail))),
    )
