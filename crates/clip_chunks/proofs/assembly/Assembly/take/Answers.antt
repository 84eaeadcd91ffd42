use Rattle.std.proofs.Common.{sym, subst}
use Rattle.std.specs.Prelude.{IfOk}
use Rattle.message_codec.specs.declared.clip_mark.ClipMark.{ClipMark}
use Rattle.message_codec.specs.declared.clip_mark.ClipMark.TheVariants as mark
use Rattle.clip_chunks.specs.Assemblies.{Answers}
use Rattle.clip_chunks.proofs.Answered.{answers_rightly, right_where_ok}
use Rattle.clip_chunks.proofs.assembly.Assembly.take.Goals as goal

pub returns-in-Start-clause-wholes : goal.returns-in-Start-clause-wholes
returns-in-Start-clause-wholes c =
    subst (λ (m : ClipMark). Answers c.args.self.now m c.args.seq c.args.bytes.now c.start.result)
    (sym c.in-Start.is)
    (answers_rightly c.args.self.now mark.Start c.args.seq c.args.bytes.now c.start.result
    c.start.ensures.answer)

pub returns-in-Chunk-clause-wholes : goal.returns-in-Chunk-clause-wholes
returns-in-Chunk-clause-wholes c =
    subst
    (λ (m : ClipMark).
    IfOk c.add.result (λ took. Answers c.args.self.now m c.args.seq c.args.bytes.now took))
    (sym c.in-Chunk.is)
    (right_where_ok c.args.self.now mark.Chunk c.args.seq c.args.bytes.now c.add.result
    c.add.ensures.answer)

pub returns-in-End-clause-wholes : goal.returns-in-End-clause-wholes
returns-in-End-clause-wholes c =
    subst (λ (m : ClipMark). Answers c.args.self.now m c.args.seq c.args.bytes.now c.end.result)
    (sym c.in-End.is)
    (answers_rightly c.args.self.now mark.End c.args.seq c.args.bytes.now c.end.result
    c.end.ensures.answer)
