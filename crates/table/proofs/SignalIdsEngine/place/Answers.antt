-- `table::SignalIdsEngine::place` meets its contract. Assumes nothing.
use Rattle.std.proofs.Common.{◌≡◌, ℕ, ◌≤◌, List, length, min, ◌+◌, insert, sym, ap, ◌∙◌, arith}
use Rattle.table.specs.declared.Entry.{Entry}
use Rattle.table.specs.Rows.{front}
use Rattle.table.specs.Table.{live, engine_of, entry_of, below}
use Rattle.table.proofs.Laws.{insert_cut, front_le}
use Rattle.table.proofs.Columns.{Sound, counted, row_in}
use Rattle.table.proofs.Answers.{position_is}
use Rattle.table.proofs.SignalIdsEngine.place.Goals as goal

pub returns : goal.returns
returns c =
    let e = c.args.self.now in
    let limit = c.args.limit in
    let p = c.position-p.result in
    let s : Sound e = record { ids_64 = omega arith; signals_64 = omega arith; detectors_64 = omega arith } in
    let row : Entry = entry_of e.fresh e.next_slot c.args.d in
    let at : p ≡ front (below limit) (live e) = c.position-p.ensures ∙ position_is e s limit e.count in
    let many = counted e c.requires.tidy in
    let inside : p ≤ length (live e) = omega (arith, at, front_le (below limit) (live e)) in
    row_in e s c.requires.tidy p c.saturating_add-self.result row c.insert_at.ensures c.insert_at-2.ensures c.insert_at-3.ensures inside (omega arith)
    ∙ ap (λ (n : ℕ). engine_of (record { rows = insert (live e) p row; next = n; fresh = e.fresh })) c.saturating_add-self.ensures
    ∙ ap (λ (l : List Entry). engine_of (record { rows = l; next = min (e.next_slot + 1) 65535; fresh = e.fresh }))
    (ap (λ (k : ℕ). insert (live e) k row) at ∙ sym (insert_cut (below limit) row (live e)))
