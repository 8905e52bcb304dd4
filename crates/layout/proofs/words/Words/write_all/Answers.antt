use Rattle.std.proofs.Common.{◌≡◌, ◌+◌, ◌*◌, ◌<◌, ◌≤◌, length, arith}
use Rattle.layout.specs.Event.{word}
use Rattle.layout.specs.Lengths.{words_length}
use Rattle.layout.proofs.Writing.{parts_more, parts_all}
use Rattle.layout.proofs.words.Words.write_all.Goals as goal

pub write_word-requires : goal.write_word-requires
write_word-requires c = omega (arith, words_length c.args.self.now.list)

pub loop-i-preserved : goal.loop-i-preserved
loop-i-preserved c =
    let list = c.args.self.now.list in
    let i = c.loop-i.i in
    let within : i < length list = omega arith in
    let room : 2 * i + 2 ≤ length c.loop-i.out = omega (arith, words_length list) in
    let next : 2 * (i + 1) ≡ 2 * i + 2 = omega arith in
    parts_more word list i (2 * i) (2 * (i + 1)) 0 c.loop-i.out c.write_word.new.out _ within room next c.write_word.ensures c.loop-i.invariant

pub returns : goal.returns
returns c =
    let list = c.args.self.now.list in
    let over' : length list ≤ c.loop-i.i = omega arith in
    parts_all word list c.loop-i.i (2 * c.loop-i.i) c.loop-i.out _ over' c.loop-i.invariant
