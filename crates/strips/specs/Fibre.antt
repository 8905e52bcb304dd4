-- The values of a fibre's strips, its clusters, and the record that is formed of them.
-- Assumes nothing.
use Rattle.std.specs.Prelude.{ℕ, ◌*◌, Bool, cond, ◌&&◌, List, [], ◌∷◌, map, filter, nat_lt, slice_index}
use Rattle.std.specs.List.{range_with_len}
use Rattle.terms.specs.declared.pair.Pair.{Pair}
use Rattle.terms.specs.declared.pair.Side.{Side}
use Rattle.terms.specs.declared.pair.Side.TheVariants.{Left, Right}
use Rattle.terms.specs.Terms.{enabled, part, side_number, chip_number}
use Rattle.rules.specs.Rules.{Meaning}
use Rattle.settings.specs.declared.fibre.FibreSettings.{FibreSettings}
use Rattle.settings.specs.Settings.{of_strip}
use Rattle.settings.specs.declared.mode.Mode.{Mode}
use Rattle.settings.specs.declared.mode.Mode.TheVariants as modes
use Rattle.layout.specs.declared.kind.Kind.{Kind}
use Rattle.layout.specs.declared.kind.Kind.TheVariants as kinds
use Rattle.layout.specs.Event.{Content, suppressed, words, record_bytes}
use Rattle.layout.specs.Contents.{cluster_on}
use Rattle.clusters.specs.declared.reached.Reached.{Reached}
use Rattle.clusters.specs.Clusters.{cluster_runs}
use Rattle.strips.specs.declared.sample.Sample.{Sample}
use Rattle.strips.specs.Order.{place_of}
use Rattle.strips.specs.Values.{turned, flat, reduced, reaches}

-- the strips of a fibre
abbrev pub strips : List ℕ
strips = range_with_len 0 256

-- the chip of a strip
abbrev pub side_of : ℕ → Side
side_of s = cond (nat_lt s 128) Left Right

-- a strip counts if it is valid and its chip enabled
abbrev pub counts : FibreSettings → ℕ → Bool
counts fibre s = enabled fibre.enable (side_of s) && (of_strip fibre s).valid

-- the samples as numbers, in place order
abbrev pub numbers : List Sample → List ℕ
numbers samples = map (λ x. x.value) samples

-- what a strip's sample gives once it is turned, out of the samples in place order
abbrev pub level : FibreSettings → List ℕ → ℕ → ℕ
level fibre samples s = turned fibre.complement (slice_index samples (place_of s))

-- the flat value of a strip
abbrev pub flat_value : FibreSettings → List ℕ → ℕ → ℕ
flat_value fibre samples s = flat (of_strip fibre s).pedestal (level fibre samples s)

-- the flat values of all strips
abbrev pub flat_values : FibreSettings → List ℕ → List ℕ
flat_values fibre samples = map (flat_value fibre samples) strips

-- the strips of a chip that count
unfoldable pub counted_strips : FibreSettings → Side → List ℕ
counted_strips fibre side = filter (counts fibre) (range_with_len (128 * side_number side) 128)

-- what a rule answers, and 0 where there is no value to ask about
abbrev pub estimated : (List ℕ → ℕ) → List ℕ → ℕ
estimated answer [] = 0
estimated answer (v ∷ vs) = answer (v ∷ vs)

-- the common mode of a chip: the rule's answer from the flat values of its strips that count, in strip order
unfoldable pub common_mode : Meaning → ℕ → FibreSettings → List ℕ → Side → ℕ
common_mode meaning f fibre samples side =
    estimated (meaning (chip_number f side) (part fibre.ranks side)) (map (flat_value fibre samples) (counted_strips fibre side))

-- both common modes of a fibre
abbrev pub common_modes : Meaning → ℕ → FibreSettings → List ℕ → Pair ℕ
common_modes meaning f fibre samples =
    record { left = common_mode meaning f fibre samples Left; right = common_mode meaning f fibre samples Right }

-- the values of a chip's strips that count, out of those of all strips
abbrev pub counted_values : FibreSettings → Side → List ℕ → List ℕ
counted_values fibre side values = map (λ s. slice_index values s) (counted_strips fibre side)

-- the common mode of a chip, out of the flat values of all strips
abbrev pub mode_of_flats : Meaning → ℕ → FibreSettings → List ℕ → Side → ℕ
mode_of_flats meaning f fibre flats side =
    estimated (meaning (chip_number f side) (part fibre.ranks side)) (counted_values fibre side flats)

-- the reduced value of a strip beside the common modes of the fibre
abbrev pub reduced_value : FibreSettings → Pair ℕ → List ℕ → ℕ → ℕ
reduced_value fibre m samples s = reduced (counts fibre s) (part m (side_of s)) (flat_value fibre samples s)

-- the thresholds that a strip reaches with a reduced value
abbrev pub reached_by : FibreSettings → ℕ → ℕ → Reached
reached_by fibre value s =
    record {
      thresh1 = reaches (counts fibre s) (of_strip fibre s).thresh1 value;
      thresh2 = reaches (counts fibre s) (of_strip fibre s).thresh2 value;
    }

-- the reduced values of all strips, out of their flat values
abbrev pub reduced_values : FibreSettings → Pair ℕ → List ℕ → List ℕ
reduced_values fibre m flats = map (λ s. reduced (counts fibre s) (part m (side_of s)) (slice_index flats s)) strips

-- the thresholds that all strips reach with their reduced values
abbrev pub all_reached : FibreSettings → List ℕ → List Reached
all_reached fibre values = map (λ s. reached_by fibre (slice_index values s) s) strips

-- the content of a zero-suppressed record beside the common modes: these, and the clusters with their reduced values
unfoldable pub suppressed_by : FibreSettings → Pair ℕ → List ℕ → Content
suppressed_by fibre m samples =
    suppressed m
    (map (cluster_on (map (reduced_value fibre m samples) strips))
    (cluster_runs (map (λ s. reached_by fibre (reduced_value fibre m samples s) s) strips)))

-- the content of a zero-suppressed record
abbrev pub suppressed_of : Meaning → ℕ → FibreSettings → List ℕ → Content
suppressed_of meaning f fibre samples = suppressed_by fibre (common_modes meaning f fibre samples) samples

-- the kind of record that a mode asks for
abbrev pub kind_in : Mode → Kind
kind_in modes.ZeroSuppression = kinds.ZeroSuppressed
kind_in modes.ProcessedRaw = kinds.ProcessedRaw
kind_in modes.VirginRaw = kinds.VirginRaw

-- the content of a fibre's record: common modes and clusters; or the flat values in strip order; or the samples in place order
abbrev pub content_in : Meaning → ℕ → FibreSettings → Mode → List ℕ → Content
content_in meaning f fibre modes.ZeroSuppression samples = suppressed_of meaning f fibre samples
content_in meaning f fibre modes.ProcessedRaw samples = words (flat_values fibre samples)
content_in meaning f fibre modes.VirginRaw samples = words samples

-- the record of a fibre
unfoldable pub fibre_record : Meaning → ℕ → FibreSettings → Mode → List ℕ → List ℕ
fibre_record meaning f fibre mode samples = record_bytes (kind_in mode) (content_in meaning f fibre mode samples)
