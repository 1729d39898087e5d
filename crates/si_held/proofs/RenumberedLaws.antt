-- What two trees hold where symbols have their numbers from another table.
use Rattle.std.proofs.Common.{◌≡◌, ℕ, List, map, sym, ◌∙◌, subst}
use Rattle.si_defs.specs.Symbols.{Numbering, IsNumbering}
use Rattle.si_defs.specs.Clauses.{Clause}
use Rattle.si_defs.specs.Entries.{Entry, clause_symbols}
use Rattle.si_defs.proofs.ListLaws.{all_with}
use Rattle.si_flat.specs.Cells.{entry}
use Rattle.si_flat.specs.Flattened.{numbered_entry}
use Rattle.si_legal.specs.declared.Posting.{Posting}
use Rattle.si_legal.specs.KeptTrees.{IsPostingOf, NumbersAll}
use Rattle.si_held.specs.TwoTrees.{TwoTrees, Hold}
use Rattle.si_held.proofs.EntrySymbols.{all_of_entry, all_of_kept}
use Rattle.si_held.proofs.EntryNumbers.{HasSame, HasNumber, Agree, has_same, entry_same}
use Rattle.si_held.proofs.KeyLaws.{clause_of}
use Rattle.si_held.proofs.Holding.{held, hold_from}

-- a kept entry is the same term by both
pub kept_same : (numbers later : Numbering) (kept : List (ℕ × Clause)) → NumbersAll numbers (map clause_of kept) → NumbersAll later (map clause_of kept) → Agree numbers later → (p : Posting) (e : Entry) → IsPostingOf kept p e → numbered_entry numbers entry e ≡ numbered_entry later entry e
kept_same numbers later kept known known_later agree p e h =
    let same = all_with (HasNumber numbers) (HasNumber later) (HasSame numbers later) (clause_symbols h.clause) (has_same numbers later agree)
    (all_of_kept (HasNumber numbers) kept known (p.clause, h.clause) h.is_kept)
    (all_of_kept (HasNumber later) kept known_later (p.clause, h.clause) h.is_kept) in
    subst (λ x. numbered_entry numbers entry x ≡ numbered_entry later entry x) h.entry_is
    (entry_same numbers later h.placed.entry (all_of_entry (HasSame numbers later) h.clause p.entry h.placed same h.numbered))

pub renumbered_held : (numbers later : Numbering) (kept : List (ℕ × Clause)) (trees : TwoTrees) → Hold numbers kept trees → IsNumbering later → NumbersAll later (map clause_of kept) → Agree numbers later → Hold later kept trees
renumbered_held numbers later kept trees h numbering known agree =
    let same : (p : Posting) (e : Entry) → IsPostingOf kept p e → numbered_entry numbers entry e ≡ numbered_entry later entry e = kept_same numbers later kept h.numbered known agree in
    hold_from later kept trees h.keys numbering known (h.literals_legal, h.subterms_legal) (λ literals t p. (
      (λ u. let e = (held numbers kept trees h literals t p).0 u in (e.0, e.1, e.2, e.3 ∙ same p e.0 e.1)),
      (λ e. (held numbers kept trees h literals t p).1 (e.0, e.1, e.2, e.3 ∙ sym (same p e.0 e.1))),
    ))
