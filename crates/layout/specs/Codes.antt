-- What a byte says of a kind.
-- Assumes nothing.
use Rattle.std.specs.Prelude.{◌≡◌, ℕ, Some, None, Result, MatchResult}
use Rattle.layout.specs.declared.kind.Kind.{Kind}
use Rattle.layout.specs.declared.kind.UnknownCode.{UnknownCode}
use Rattle.layout.specs.Event.{kind_of}

-- the kind of a packet code; or the byte is none, and comes back
abbrev pub Decodes : ℕ → Result Kind UnknownCode → Type 0
Decodes byte r = MatchResult r (λ kind. kind_of byte ≡ Some kind) (λ e. (e.0 ≡ byte) × (kind_of byte ≡ None))
