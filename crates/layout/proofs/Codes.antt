-- Packet codes and kinds.
use Rattle.std.proofs.Common.{◌≡◌, ℕ, Some, sym, refl, ap, ◌∙◌, arith}
use Rattle.std.proofs.lemmas.Bool.Decides.{nat_tests}
use Rattle.layout.specs.declared.kind.Kind.{Kind}
use Rattle.layout.specs.declared.kind.Kind.TheVariants.{ZeroSuppressed, ProcessedRaw, VirginRaw}
use Rattle.layout.specs.Event.{code, kind_of}
use Rattle.layout.specs.Laws.{CodesTellKinds}

code_of : (k : Kind) (byte : ℕ) → kind_of byte ≡ Some k → code k ≡ byte
code_of ZeroSuppressed byte e = grind (arith, nat_tests)
code_of ProcessedRaw byte e = grind (arith, nat_tests)
code_of VirginRaw byte e = grind (arith, nat_tests)

own_code : (k : Kind) → kind_of (code k) ≡ Some k
own_code ZeroSuppressed = refl
own_code ProcessedRaw = refl
own_code VirginRaw = refl

pub codes_tell_kinds : CodesTellKinds
codes_tell_kinds k byte = (code_of k byte, λ e. ap kind_of (sym e) ∙ own_code k)
