-- The rule can be asked about a chip, with the values of its strips that count.
-- Assumes nothing.
use Rattle.std.proofs.Common.{◌≡◌, ℕ, ◌<◌, ◌≤◌, true, false, nat_eq, List, length, get_or, Result, Ok, Err, refl, sym, subst, arith}
use Rattle.std.proofs.lemmas.Bool.Decides.{nat_tests}
use Rattle.std.specs.Result.{MatchResult, IsOk}
use Rattle.std.specs.List.{AllByRecursion}
use Rattle.terms.specs.declared.pair.Side.{Side}
use Rattle.terms.specs.Terms.{chip_number}
use Rattle.rules.specs.Rules.{InRange}
use Rattle.settings.specs.declared.fibre.FibreSettings.{FibreSettings}
use Rattle.layout.specs.Event.{TenBits}
use Rattle.layout.specs.Limits.{at_most}
use Rattle.layout.specs.LimitsLemmas.{at_most_all}
use Rattle.strips.specs.Fibre.{counted_strips, counted_values}
use Rattle.strips.proofs.Rows.{all_of_map, all_at}
use Rattle.strips.proofs.FormedRecords.{chip_below}

pub can_ask : (fibre : FibreSettings) (flats vs : List ℕ) (f : ℕ) (side : Side) (chip : ℕ) → f < 12 → chip ≡ chip_number f side
    → at_most 1023 flats ≡ true → vs ≡ counted_values fibre side flats → 0 < length vs → length vs ≤ 128 → InRange chip vs
can_ask fibre flats vs f side chip below at fit is some few =
    record {
      of_card = subst (λ (k : ℕ). k < 24) (sym at) (chip_below f side below);
      some = omega arith;
      of_chip = omega arith;
      ten_bits =
          subst (AllByRecursion (λ v. v ≤ 1023)) (sym is)
          (all_of_map (λ v. v ≤ 1023) (λ s. get_or flats s 0) (λ s. all_at TenBits flats s (at_most_all 1023 flats fit) (omega arith)) (counted_strips fibre side));
    }

pub some_left : (n : ℕ) → false ≡ nat_eq n 0 → 0 < n
some_left n e = grind (arith, nat_tests)

-- what is not turned down is answered
pub answers : {X E : Type 0} (r : Result X E) (P : X → Type 0) (Q : E → Type 0) → MatchResult r P Q → ((e : E) → Q e → ⊥) → IsOk r
answers (Ok x) P Q m never = refl
answers (Err e) P Q m never = absurd (never e m)
