-- For the proofs alone: what stands in a file in memory.
use Rattle.std.specs.Prelude.{ℕ, List}
use Rattle.grove_log.specs.declared.memory.MemoryFile.{MemoryFile}

abbrev pub memory_bytes : MemoryFile → List ℕ
memory_bytes file = file.bytes.items
