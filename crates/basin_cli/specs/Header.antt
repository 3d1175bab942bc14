-- The table of gauged inflows.
use Rattle.std.specs.Prelude.{ℕ, List, codes, None, Option, Some, Vec}
use Rattle.std.specs.declared.alloc.Global.{Global}

-- that which has its header alone
unfoldable pub header : List ℕ
header = codes "month,node,amount\n"

-- that of a series which was read from a file, or without one
abbrev pub table_of : Option (Vec ℕ Global) → List ℕ
table_of None = header
table_of (Some text) = text.items
