-- `proposals::records::flags_good` meets its contract. The invariant: the flags of the records left decide it.
use Rattle.std.proofs.Common.{◌≡◌, ◌/◌, length}
use Rattle.std.specs.Slice.Iter.{chunks_exact_rest, chunks_exact_size}
use Rattle.proposals.specs.Records.{flags_good}
use Rattle.proposals.proofs.records.flags_good.Given as goal

abbrev pub invariant-loop-record : goal.invariant-loop-record
invariant-loop-record l =
    (chunks_exact_size l.record-iterator ≡ 16)
    × (flags_good l.records (length l.records / 16) ≡ flags_good (chunks_exact_rest l.record-iterator) (length (chunks_exact_rest l.record-iterator) / 16))
