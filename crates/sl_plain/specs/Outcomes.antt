-- What the program's changes stand for, and how its answers follow from a plan's end.
use Rattle.std.specs.Prelude.{◌≡◌, ◌^◌, List, Bool, true, false, ◌||◌, nat_le, Result, Ok, Err}
use Rattle.std.specs.List.{list_any}
use Rattle.sl_types.specs.declared.kind.Status.{Status}
use Rattle.sl_model.specs.declared.node.Node.{Node}
use Rattle.sl_model.specs.declared.node.Entry.{Entry}
use Rattle.sl_model.specs.Volume as volume
use Rattle.sl_model.specs.Looking.{Outcome}
use Rattle.sl_plain.specs.declared.halt.Halt.{Halt}
use Rattle.sl_plain.specs.declared.halt.Halt.TheVariants as halt
use Rattle.sl_plain.specs.declared.change.Change.{Change}
use Rattle.sl_plain.specs.declared.change.Change.TheVariants as change
use Rattle.sl_plain.specs.Unstables.{write_of}

abbrev pub change_of : Change → volume.Change
change_of (change.PutNode fileid node) = volume.PutNode fileid node
change_of (change.TakeNode fileid) = volume.TakeNode fileid
change_of (change.PutName place entry) = volume.PutName place.dir place.name.items entry
change_of (change.TakeName place) = volume.TakeName place.dir place.name.items
change_of (change.PutText fileid text) = volume.PutText fileid text
change_of (change.PutBytes s) = volume.PutBytes s.fileid s.offset s.bytes
change_of (change.AddWrite w) = volume.AddWrite (write_of w)

-- ---- numbers that pass the end of their type

-- an object's count of links has 32 bits; its size, and a directory's counts, have 64
abbrev pub is_past_node : Node → Bool
is_past_node n = nat_le (2 ^ 32) n.nlink || (nat_le (2 ^ 64) n.size || (nat_le (2 ^ 64) n.entries || nat_le (2 ^ 64) n.made))

-- and so has a cookie
abbrev pub is_past_entry : Entry → Bool
is_past_entry e = nat_le (2 ^ 64) e.cookie

abbrev pub is_past : volume.Change → Bool
is_past (volume.PutNode f n) = is_past_node n
is_past (volume.PutName d name e) = is_past_entry e
is_past _ = false

-- a change puts a number that passes the end of its type
abbrev pub ArePast : List volume.Change → Type 0
ArePast cs = list_any is_past cs ≡ true

abbrev pub IsSpent : Result Outcome Status → Type 0
IsSpent (Ok o) = ArePast o.changes
IsSpent (Err s) = ⊥

-- ---- what the program's parts answer

-- a value, where no number of it passes the end of its type
abbrev pub Counts : {A : Type 0} → (A → Bool) → Result A Halt → A → Type 0
Counts past (Ok a) wanted = a ≡ wanted
Counts past (Err (halt.Refused s)) wanted = ⊥
Counts past (Err halt.NoMemory) wanted = ⊥
Counts past (Err halt.Spent) wanted = past wanted ≡ true

-- so of changes; memory may also run out
abbrev pub Makes : Result (List volume.Change) Halt → List volume.Change → Type 0
Makes (Ok cs) wanted = cs ≡ wanted
Makes (Err (halt.Refused s)) wanted = ⊥
Makes (Err halt.NoMemory) wanted = Unit {0}
Makes (Err halt.Spent) wanted = ArePast wanted

-- so of an outcome
abbrev pub Has : Result Outcome Halt → Outcome → Type 0
Has (Ok o) wanted = o ≡ wanted
Has (Err (halt.Refused s)) wanted = ⊥
Has (Err halt.NoMemory) wanted = Unit {0}
Has (Err halt.Spent) wanted = ArePast wanted.changes

-- The end of a plan: its outcome, or the status that it ends with.
abbrev pub Gives : Result Outcome Halt → Result Outcome Status → Type 0
Gives (Ok o) end = end ≡ Ok o
Gives (Err (halt.Refused s)) end = end ≡ Err s
Gives (Err halt.NoMemory) end = Unit {0}
Gives (Err halt.Spent) end = IsSpent end

-- The end of a plan whose value is what was found, as f says it.
abbrev pub GivesBy : {A B : Type 0} → (A → B) → Result A Halt → Result B Status → Type 0
GivesBy f (Ok a) end = end ≡ Ok (f a)
GivesBy f (Err (halt.Refused s)) end = end ≡ Err s
GivesBy f (Err halt.NoMemory) end = Unit {0}
GivesBy f (Err halt.Spent) end = ⊥
