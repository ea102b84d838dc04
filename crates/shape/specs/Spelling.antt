-- Bytes read as a name.
-- Assumes nothing.
use Rattle.std.specs.Prelude.{ℕ, cond, ◌&&◌, List, Option, None, Some}
use Rattle.scan.specs.Names.{length_ok, all_name_bytes, padded}

-- the name that bytes spell: their eight places, if they are a name
unfoldable pub spelling : List ℕ → Option (List ℕ)
spelling bytes = cond (length_ok bytes && all_name_bytes bytes) (Some (padded bytes)) None
