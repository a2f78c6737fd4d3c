-- What holds of the layout as a whole.
use Rattle.std.specs.Prelude.{◌≡◌, ℕ, List}
use Rattle.sl_journal.specs.Format.{Stands}

-- Under one head, bytes stand for at most one list of records.
abbrev pub BytesStandForOneList : Type 0
BytesStandForOneList = (bytes head : List ℕ) (one other : List (List ℕ)) → Stands bytes head one → Stands bytes head other → one ≡ other
