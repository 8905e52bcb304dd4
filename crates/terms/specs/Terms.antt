-- The words that every layer shares: refusals and their numbers, the two chips of a fibre.
-- Assumes nothing.
use Rattle.std.specs.Prelude.{ℕ, ◌+◌, ◌*◌, Bool, true, false, cond, Some, None, Option}
use Rattle.terms.specs.declared.refusal.Refusal.{Refusal}
use Rattle.terms.specs.declared.refusal.Refusal.TheVariants.{CaptureRunning, UnknownSetting, NoSuchFibre, UnusedBits, UnknownMode, ThresholdOrder, SampleTooLarge, SlipOut, NothingWaiting, NoSlipOut, BufferTooShort, StoreFull, StoreEmpty, OutOfRange, NoSuchCluster, NotZeroSuppressed}
use Rattle.terms.specs.declared.enable.Enable.{Enable}
use Rattle.terms.specs.declared.enable.Enable.TheVariants as enables
use Rattle.terms.specs.declared.pair.Pair.{Pair}
use Rattle.terms.specs.declared.pair.Side.{Side}
use Rattle.terms.specs.declared.pair.Side.TheVariants.{Left, Right}

-- the number of each refusal
abbrev pub number : Refusal → ℕ
number CaptureRunning = 1
number UnknownSetting = 2
number NoSuchFibre = 3
number UnusedBits = 4
number UnknownMode = 5
number ThresholdOrder = 6
number (SampleTooLarge f) = 7
number SlipOut = 8
number NothingWaiting = 9
number NoSlipOut = 10
number (BufferTooShort n) = 11
number StoreFull = 12
number StoreEmpty = 13
number OutOfRange = 16
number NoSuchCluster = 32
number NotZeroSuppressed = 33

-- what a refusal names beside its number: the lowest fibre of question 7, the length of question 11
abbrev pub named : Refusal → Option ℕ
named CaptureRunning = None
named UnknownSetting = None
named NoSuchFibre = None
named UnusedBits = None
named UnknownMode = None
named ThresholdOrder = None
named (SampleTooLarge f) = Some f
named SlipOut = None
named NothingWaiting = None
named NoSlipOut = None
named (BufferTooShort n) = Some n
named StoreFull = None
named StoreEmpty = None
named OutOfRange = None
named NoSuchCluster = None
named NotZeroSuppressed = None

-- the chip of a fibre on a side is chip 2f (left) or 2f + 1 (right)
abbrev pub side_number : Side → ℕ
side_number Left = 0
side_number Right = 1

abbrev pub chip_number : ℕ → Side → ℕ
chip_number f s = 2 * f + side_number s

-- the part of a pair that belongs to a side
abbrev pub part : {T : Type 0} → Pair T → Side → T
part p Left = p.left
part p Right = p.right

-- the two bits of a setting word that stand for an enable
abbrev pub enable_number : Enable → ℕ
enable_number enables.Neither = 0
enable_number enables.Right = 1
enable_number enables.Left = 2
enable_number enables.Both = 3

-- whether a fibre's chip on a side is enabled
abbrev pub enabled : Enable → Side → Bool
enabled enables.Neither Left = false
enabled enables.Neither Right = false
enabled enables.Right Left = false
enabled enables.Right Right = true
enabled enables.Left Left = true
enabled enables.Left Right = false
enabled enables.Both Left = true
enabled enables.Both Right = true

-- how many of the two chips are enabled
abbrev pub enabled_chips : Enable → ℕ
enabled_chips e = cond (enabled e Left) 1 0 + cond (enabled e Right) 1 0
