-- The indices in a recording.
use Rattle.std.specs.Prelude.{ℕ, ◌/◌, ◌%◌, List, map, ◌==◌, slice_index}
use Rattle.lists.specs.Rows.{up_from}
use Rattle.lists.specs.Tests.{pick}

-- the index of a pixel: of a byte's two the lower half is the earlier
abbrev pub recorded_index : List ℕ → ℕ → ℕ
recorded_index bs i = pick (i % 2 == 0) (slice_index bs (i / 2) % 16) (slice_index bs (i / 2) / 16)

-- sixteen indices
unfoldable pub indices_in : List ℕ → List ℕ
indices_in bs = map (recorded_index bs) (up_from 0 16)
