use Rattle.std.proofs.Common.{List, ℕ, drop, Some, ap, sym, ◌∙◌, arith}
use Rattle.share_base.specs.Memory.{MemoryInput}
use Rattle.share_base.proofs.ToldLists.{copied_front}
use Rattle.share_base.proofs.memory_source.MemorySourceSource.read.Goals as goal

pub returns-clause-reads : goal.returns-clause-reads
returns-clause-reads c =
    let fields = c.self.inside in
    let n = c.min-n.result in
    let given = ap (λ (xs : List ℕ). Some xs)
    (sym (ap (λ (m : MemoryInput). m.left) c.self.view_is)
    ∙ copied_front fields.bytes.items c.copy_from_slice.new.self (drop n c.args.buf.now)
    fields.at n (omega arith) (cc))
    in
    let same = c.self.view_is in record {
      gives = given;
      ends = ap (λ (m : MemoryInput). Some m.ended) same;
      left_before = ap (λ (m : MemoryInput). Some m.left) same;
      ended_before = ap (λ (m : MemoryInput). Some m.ended) same;
      counts = ap (λ (m : MemoryInput). m.faults) same;
    }
