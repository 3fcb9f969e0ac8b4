-- Candidates as records of sixteen bytes.
use Rattle.std.specs.Prelude.{ℕ, ◌+◌, ◌*◌, Bool, List, [], ◌∷◌, map, leb, get_or, take, drop}
use Rattle.lists.specs.Rows.{up_from}
use Rattle.lists.specs.Parts.{part_at}
use Rattle.lists.specs.Tests.{all}
use Rattle.bptc.specs.declared.Rgb.{Rgb}
use Rattle.bptc_block.specs.declared.Candidate.{Candidate}
use Rattle.bptc_block.specs.Internal.Words.{p_bits_of}

-- an endpoint: red, green, blue
abbrev pub endpoint_in : List ℕ → Rgb
endpoint_in bs = record { r = get_or bs 0 0; g = get_or bs 1 0; b = get_or bs 2 0 }

-- four endpoints
abbrev pub endpoints_in : List ℕ → List Rgb
endpoints_in bs =
    endpoint_in (take 3 bs)
    ∷ (endpoint_in (take 3 (drop 3 bs)) ∷ (endpoint_in (take 3 (drop 6 bs)) ∷ (endpoint_in (take 3 (drop 9 bs)) ∷ [])))

-- a candidate: mode, partition, endpoints, p-bits
unfoldable pub candidate_in : List ℕ → Candidate
candidate_in bs =
    record {
      mode = get_or bs 0 0;
      partition = get_or bs 1 0;
      ends = endpoints_in (take 12 (drop 2 bs));
      p = p_bits_of (get_or bs 14 0) (get_or bs 15 0);
    }

-- the candidate of record k
abbrev pub candidate_among : List ℕ → ℕ → Candidate
candidate_among records k = candidate_in (part_at 16 k records)

-- the candidates of the first n records
unfoldable pub candidates_in : List ℕ → ℕ → List Candidate
candidates_in records n = map (candidate_among records) (up_from 0 n)

-- the last byte of record k is 0 or 1
abbrev pub flag_good : List ℕ → ℕ → Bool
flag_good records k = leb (get_or records (k * 16 + 15) 0) 1

-- of each of the first n records
abbrev pub flags_good : List ℕ → ℕ → Bool
flags_good records n = all (flag_good records) (up_from 0 n)
