use Rattle.std.proofs.Common.{◌≡◌, drop, map}
use Rattle.memory_edge.specs.Memory.{file_of, plain_file}
use Rattle.memory_edge.proofs.memory.find.Given as goal

abbrev pub invariant-loop-file : goal.invariant-loop-file
invariant-loop-file l =
    file_of (map plain_file (drop l.file-index l.files)) l.name ≡ file_of (map plain_file l.files) l.name
