-- The stamp of a document: which file it is about (profile: docs/FORMATS.md, Sheets; the digest: FIPS 180-4).
use Rattle.std.specs.Prelude.{◌++◌, ℕ, List, codes}
use Rattle.hex.specs.Hex.{encode_lower}
use Rattle.sha2.specs.Sha256.{sha256}

-- the name of a file and the digest of its bytes in hexadecimal, as the program sha256sum prints it
unfoldable pub stamp_text : List ℕ → List ℕ → List ℕ
stamp_text name bytes = name ++ (codes " sha256 " ++ encode_lower (sha256 bytes))
