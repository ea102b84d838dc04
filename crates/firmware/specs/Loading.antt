-- What is said to C of loading.
-- Assumes nothing.
use Rattle.std.specs.Prelude.{ℕ, ◌%◌, List, get_or}
use Rattle.scan.specs.declared.set.Set.{Set}
use Rattle.loader.specs.Load.{load_of}
use Rattle.loader.specs.Told.{load_told}
use Rattle.firmware.specs.declared.loading.LoadResult.{LoadResult}

-- by what loading tells: the refusal and its offset; and the counts of the set, which are below 256
abbrev pub load_result : List ℕ → Set → LoadResult
load_result told s = record { number = get_or told 0 0; r = s.r % 256; n = s.n % 256; m = s.m % 256; offset = get_or told 1 0 }

-- what `rsf_load` answers
unfoldable pub load_file : List ℕ → LoadResult
load_file file = load_result (load_told (load_of file).answer) (load_of file).set
