-- One fibre of a card changed in place.
-- Assumes nothing.
use Rattle.std.proofs.Common.{◌≡◌, ℕ, zero, suc, List, [], ◌∷◌, get_or, set, refl, ap, ◌∙◌}
use Rattle.terms.specs.declared.fibre.Fibre.{Fibre}
use Rattle.settings.specs.declared.card.CardSettings.{CardSettings}
use Rattle.settings.specs.declared.fibre.FibreSettings.{FibreSettings}
use Rattle.settings.specs.Settings.{at_fibre, no_fibre}

-- past the end of a list nothing is written, so that the default of the read never matters
update_default : {X : Type 0} (xs : List X) (i : ℕ) (g : X → X) (d e : X) → set xs i (g (get_or xs i d)) ≡ set xs i (g (get_or xs i e))
update_default [] i g d e = refl
update_default (x ∷ xs) zero g d e = refl
update_default (x ∷ xs) (suc i) g d e = ap (λ ys. x ∷ ys) (update_default xs i g d e)

pub changed :
    (card : CardSettings) (f : Fibre) (g : FibreSettings → FibreSettings) (i : ℕ) (d x : FibreSettings) →
    i ≡ f.index → x ≡ g (get_or card.fibres i d) → record { mode = card.mode; fibres = set card.fibres i x } ≡ at_fibre f g card
changed card f g i d x e h =
    ap (λ (y : FibreSettings). record { mode = card.mode; fibres = set card.fibres i y }) h
    ∙ (ap (λ (ys : List FibreSettings). record { mode = card.mode; fibres = ys }) (update_default card.fibres i g d no_fibre)
    ∙ ap (λ (n : ℕ). record { mode = card.mode; fibres = set card.fibres n (g (get_or card.fibres n no_fibre)) }) e)
