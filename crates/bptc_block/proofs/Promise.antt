-- The finisher's promise: the error is the block's distance, the block is the candidate's, and none such lies closer.
use Prim.Native.Nat.{ℕ, ◌≤◌}
use mathlib.Core.Path.{◌≡◌}
use mathlib.Core.List.{List}
use Rattle.lists.specs.Bytes.{Bytes}
use Rattle.bptc.specs.Mode.{mode_numbered}
use Rattle.bptc.specs.Colour.{pixels_of, squared_distance}
use Rattle.bptc.proofs.Pixels.{pixels-shown}
use Rattle.bptc_block.specs.declared.Candidate.{Candidate}
use Rattle.bptc_block.specs.RgbaCandidate.{rgba_candidate}
use Rattle.bptc_block.specs.Finish.{fields_by, finished_by, finish}
use Rattle.bptc_block.specs.ReadCall.{read_of}
use Rattle.bptc_block.specs.FinishCall.{finish_of, finish_into}
use Rattle.bptc_block.specs.Promise.{FinishPromise, FinishKeeps, MeasuredAsFinished}
use Rattle.bptc_block.proofs.Modes.{lawful}
use Rattle.bptc_block.proofs.Distance.{apart_small}
use Rattle.bptc_block.proofs.Finishing.{Good, fields_plain, finished_exact, finished_closest, finished_allowed}
use Rattle.bptc_block.proofs.ReadCall.{readable, measure-answer}
use Rattle.bptc_block.proofs.FinishCall.{finish-answer, finish-block, finish-pixels, finish_known, finish_good}

-- the greatest error of a candidate that its checks accept
pub error_small : (px : List ℕ) (c : Candidate) → Good (rgba_candidate c) → Bytes px → (finish px c).error ≤ 3121200
unfolding finished_by
error_small px c good bytes =
    apart_small (mode_numbered c.mode) (lawful c.mode) (pixels_of 3 px) (fields_by squared_distance (pixels_of 3 px) (rgba_candidate c))
    (fields_plain squared_distance (pixels_of 3 px) (rgba_candidate c) good) (pixels-shown 3 px bytes)

-- all that is promised of it
promise : (px : List ℕ) (c : Candidate) → Good (rgba_candidate c) → FinishPromise px c (finish px c).block (finish px c).error
promise px c good =
    record {
      exact = finished_exact squared_distance (pixels_of 3 px) (rgba_candidate c) good;
      closest = finished_closest squared_distance (pixels_of 3 px) (rgba_candidate c) good;
      allowed = finished_allowed squared_distance (pixels_of 3 px) (rgba_candidate c) good;
      bound = error_small px c good;
    }

-- the call
pub finish-keeps : FinishKeeps
finish-keeps px c part four ok = rw (finish-answer px c part ok, finish-block px c part ok) (promise px c (finish_good px c part ok four))

-- measuring what was finished
pub measure_finished : MeasuredAsFinished
measure_finished px c part four ok =
    let k : FinishPromise px c (finish_into px c part) (finish_of px c part).error = finish-keeps px c part four ok in
    let r : (read_of (finish_into px c part) px).refusal ≡ 0 =
    readable (finish_into px c part) px (finish-pixels px c part ok) k.allowed.sixteen (rw k.allowed.mode (finish_known px c part ok)) in
    rw (measure-answer (finish_into px c part) px r, k.exact)
