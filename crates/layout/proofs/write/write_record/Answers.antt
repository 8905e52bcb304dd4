use Rattle.std.proofs.Common.{◌≡◌, ◌+◌, ◌^◌, ◌<◌, ◌≤◌, length, ap, arith}
use Rattle.layout.specs.Event.{code, content_bytes}
use Rattle.layout.specs.Lengths.{record_in_range, longest_most}
use Rattle.layout.proofs.Writing.{record_written}
use Rattle.layout.proofs.write.write_record.Goals as goal

pub overflow_add-length : goal.overflow_add-length
overflow_add-length g c =
    let range = record_in_range g.K.RecordKind.kind (g.K.RecordKind.meaning c.args.content.now) (g.met.K.RecordKind.sound c.args.content.now) in
    let most = longest_most g.K.RecordKind.kind in
    let fits : 3 + c.content_length-length.result < 2 ^ 64 = omega arith in
    record { fits = fits }

pub overflow_cast-length : goal.overflow_cast-length
overflow_cast-length g c =
    let range = record_in_range g.K.RecordKind.kind (g.K.RecordKind.meaning c.args.content.now) (g.met.K.RecordKind.sound c.args.content.now) in
    let most = longest_most g.K.RecordKind.kind in
    let fits : 3 + c.content_length-length.result < 2 ^ 16 = omega arith in
    record { fits = fits }

pub returns : goal.returns
returns g c =
    let bytes = content_bytes (g.K.RecordKind.meaning c.args.content.now) in
    let done = c.in-Ok.ensures in
    let room : 3 + length bytes ≤ length c.args.out.now = omega arith in
    let all : 3 + c.content_length-length.result ≡ 3 + length bytes = ap (λ n. 3 + n) c.content_length-length.ensures in (
      omega arith,
      omega arith,
      record_written c.args.out.now c.write_word.new.out (3 + c.content_length-length.result) c.packet_code.result (code g.K.RecordKind.kind) bytes
          c.write_content.new.out room all c.packet_code.ensures c.write_word.ensures done.2,
    )
