-- `rust_answers::recording::indices` meets its contract.
use Rattle.std.proofs.Common.{rules}
use Rattle.std.proofs.lemmas.List.FromFn.{fill_by_all}
use Rattle.rust_answers.specs.Recording.{recorded_index, indices_in}
use Rattle.rust_answers.proofs.recording.indices.Goals as goal

pub returns : goal.returns
unfolding indices_in
returns c =
    let made = c.from_fn.ensures.items in
    fill_by_all (recorded_index c.args.bytes.now) c.from_fn.result 16 0 made.long (λ i h. let called = made.at i 0 h in search rules)
