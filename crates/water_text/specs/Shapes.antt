-- Texts of a fixed shape.
use Rattle.std.specs.Prelude.{ℕ, List, [], ◌∷◌, Bool, true, false, ◌&&◌, ◌==◌, if◌then◌else◌}
use Rattle.std.specs.Char.{is_ascii_digit}

-- a digit where the pattern has `d` (100), and else the pattern's byte
abbrev pub fits_at : ℕ → ℕ → Bool
fits_at pattern byte = if pattern == 100 then is_ascii_digit byte else byte == pattern

-- the text fits the pattern byte by byte
unfoldable pub has_shape : List ℕ → List ℕ → Bool
has_shape [] [] = true
has_shape [] (byte ∷ bytes) = false
has_shape (pattern ∷ patterns) [] = false
has_shape (pattern ∷ patterns) (byte ∷ bytes) = fits_at pattern byte && has_shape patterns bytes
