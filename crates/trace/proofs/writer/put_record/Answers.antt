use Rattle.std.proofs.Common.{refl, ap, ◌∙◌, arith, rules}
use Rattle.trace.specs.Writing.{put}
use Rattle.trace.proofs.Laid.{length_with_fields}
use Rattle.trace.proofs.Buffers.{put_then}
use Rattle.trace.proofs.writer.put_record.Goals as goal

pub returns-clause-bytes : goal.returns-clause-bytes
returns-clause-bytes c =
    let f = c.args.fields in
    let room = length_with_fields f.gap f.line f.word f.kind in
    let p4 = put_then _ _ _ (omega arith) _ _ _ _ c.put-4.ensures.bytes c.put-4.ensures.place c.put-5.ensures.bytes in
    let p3 = put_then _ _ _ (omega arith) _ _ _ _ c.put-3.ensures.bytes c.put-3.ensures.place p4 in
    let p2 = put_then _ _ _ (omega arith) _ _ _ _ c.put-2.ensures.bytes c.put-2.ensures.place p3 in
    let p1 = put_then _ _ _ (omega arith) _ _ _ _ c.put.ensures.bytes c.put.ensures.place p2 in
    search rules ∙ (p1 ∙ ap (put c.args.out.now c.args.at) (rw c.map.ensures refl))
