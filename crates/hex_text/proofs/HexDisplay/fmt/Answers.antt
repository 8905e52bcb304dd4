use Rattle.std.proofs.Common.{rules, true, ◌≡◌, ℕ, ◌<◌, ◌+◌, List, [], ◌++◌, take, get_or, sym, ap, ◌∙◌}
use Rattle.std.proofs.lemmas.Fmt.{hex_byte}
use Rattle.std.proofs.lemmas.Grind.{put_two}
use Rattle.std.proofs.lemmas.List.{take_more, flat_map_more}
use Rattle.hex_text.specs.Digits.{hex_digits, two_digits}
use Rattle.hex_text.proofs.HexDisplay.fmt.Goals as goal

pub loop-byte-preserved : goal.loop-byte-preserved
loop-byte-preserved g c =
    let xs = c.args.self.now.0.now in
    let i = c.loop-byte.byte-index in
    let byte : get_or xs i 0 < 256 = search rules in
    let more : hex_digits (take i xs) ++ two_digits (get_or xs i 0) ≡ hex_digits (take (i + 1) xs) =
    flat_map_more two_digits [] (take i xs) (get_or xs i 0) ∙ ap hex_digits (sym (take_more xs i 0 c.loop-byte-test.true)) in
    λ plain. put_two _ _ _ _ _ _ _ (c.loop-byte.invariant plain) (search rules) (ap (λ (t : List ℕ). hex_digits (take i xs) ++ t) (hex_byte true (get_or xs i 0) byte) ∙ more)
