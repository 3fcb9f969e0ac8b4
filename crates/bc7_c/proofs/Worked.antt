-- The numbers and parts worked by hand are what the definitions give.
use mathlib.Core.Path.{refl}
use Rattle.lists.specs.Bits.{split}
use Rattle.lists.specs.Bytes.{bytes}
use Rattle.bptc.specs.Internal.Colour.{bytes_of}
use Rattle.bc7_c.specs.Numbers.{end_in, answered}
use Rattle.bc7_c.specs.Parts.{chooser_bytes, head_bytes, field_bytes}
use Rattle.bc7_c.specs.Worked.{Worked}

-- by computing every definition
pub worked : Worked
unfolding split bytes bytes_of end_in answered chooser_bytes head_bytes field_bytes
worked = record {
  endpoint = refl;
  above = refl;
  indices = refl;
  fixed = refl;
  free = refl;
  error = refl;
  refused = refl;
  chooser = refl;
  fields = refl;
}
