-- Document 01, "The table": what holds of every table that calls make.
-- Assumes nothing.
use Rattle.std.specs.Prelude.{◌≡◌, ◌⊎◌, List, ◌++◌, ℕ, ◌≤◌, ◌<◌, eqb, length, Ok}
use Rattle.table.specs.declared.Signal.{Signal}
use Rattle.table.specs.declared.Entry.{Entry}
use Rattle.table.specs.Rows.{keep, every, pairs}
use Rattle.table.specs.Table.{Table, fault}

-- sorted by identifier alone
abbrev pub Sorted : List Entry → Type 0
Sorted = pairs (λ a b. a.id ≤ b.id)

-- no slot stands twice
abbrev pub Apart : List Entry → Type 0
Apart = pairs (λ a b. a.signal.slot ≡ b.signal.slot → ⊥)

-- slots rise
abbrev pub Rising : List Signal → Type 0
Rising = pairs (λ a b. a.slot < b.slot)

-- a slot that was given before the next one: it is below it, or both are 65,535
abbrev pub Used : ℕ → ℕ → Type 0
Used next s = (s < next) ⊎ ((s ≡ 65535) × (next ≡ 65535))

-- what holds of each row: its identifier is its definition's, the definition passes the five tests, its slot was given
pub record Proper (next : ℕ) (r : Entry) : Type 0 where
  pub id_is : r.id ≡ r.signal.definition.can_id
  pub passes : fault r.signal.definition ≡ Ok tt
  pub used : Used next r.signal.slot

-- what holds of the table
pub record Regular (t : Table) : Type 0 where
  pub few : length t.rows ≤ 64
  pub bound : t.next ≤ 65535
  pub sorted : Sorted t.rows
  pub apart : Apart t.rows
  pub proper : every (Proper t.next) t.rows

-- the rows of one identifier, in table order
abbrev pub of_id : ℕ → List Entry → List Entry
of_id k = keep (λ r. eqb r.id k)

-- the order rule: among rows of one identifier those of `before` stand before the rows that were there, those of `behind` behind them
abbrev pub Order : List Entry → List Entry → List Entry → List Entry → Type 0
Order before behind was is = (k : ℕ) → of_id k is ≡ of_id k before ++ (of_id k was ++ of_id k behind)
