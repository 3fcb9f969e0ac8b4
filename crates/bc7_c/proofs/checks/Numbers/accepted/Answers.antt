-- `bc7_c::checks::Numbers::accepted` meets its contract.
use mathlib.Core.Path.{sym, ap, ◌∙◌}
use mathlib.Core.List.{map}
use lib.ListN.{length-map}
use borrow.Author.Rules.{rules}
use Rattle.bptc.proofs.Colours.{without-length}
use Rattle.bptc_block.specs.declared.Candidate.{Candidate}
use Rattle.bptc_block.specs.Refusal.{check_candidate}
use Rattle.bptc_block.specs.RgbaCandidate.{rgba_candidate}
use Rattle.bptc_block.proofs.Refusals.{good}
use Rattle.bc7_c.specs.Numbers.{end_in, candidate_at}
use Rattle.bc7_c.proofs.Accepted.{Bytewise, bytewise}
use Rattle.bc7_c.proofs.checks.Numbers.accepted.Goals.{In_ok-check_candidate}
use Rattle.bc7_c.proofs.checks.Numbers.accepted.Goals as goal

-- what is known of the numbers that the checks accept
taken : (c : In_ok-check_candidate) → Bytewise c.args.self.mode c.args.self.partition c.args.self.ends c.args.self.p c.args.free
taken c =
    let a = c.args.self in
    bytewise _ _ _ _ _ (good (rgba_candidate (candidate_at a.mode a.partition a.ends a.p c.args.free)) 0 (without-length (map end_in a.ends) ∙ length-map a.ends end_in ∙ search rules) (sym c.in_ok-check_candidate.ensures)).0

pub overflow_cast-result : goal.overflow_cast-result
overflow_cast-result c = record { fits = (taken (goal.at.overflow_cast-result c).In_ok-check_candidate).mode-byte }

pub overflow_cast-result-2 : goal.overflow_cast-result-2
overflow_cast-result-2 c = record { fits = (taken (goal.at.overflow_cast-result-2 c).In_ok-check_candidate).partition-byte }

pub p_bits-p-requires : goal.p_bits-p-requires
p_bits-p-requires c = (taken (goal.at.p_bits-p-requires c).In_ok-check_candidate).p-byte

pub invariant_of-result : goal.invariant_of-result
invariant_of-result c =
    let e = (goal.at.invariant_of-result c).In_ok-check_candidate in
    record { accepted = ap (λ (k : Candidate). check_candidate k 0) (rw c.p_bits-p.ensures (taken e).same) ∙ sym e.in_ok-check_candidate.ensures }

pub returns : goal.returns
returns c = rw c.p_bits-p.ensures (taken (goal.at.returns c).In_ok-check_candidate).same
