-- `columns::records::test_words` meets its contract: the words that have room are tested, and then whether there are more.
use Rattle.std.proofs.Common.{◌≡◌, sym, ap, ◌∙◌, List, ℕ, take, length, le-leb}
use Rattle.std.proofs.lemmas.Bool.{lt-leb}
use Rattle.std.proofs.lemmas.List.{take_min}
use Rattle.columns.specs.Section.{all_of}
use Rattle.columns.proofs.records.test_words.Goals as goal

pub returns-then-not-all_fine : goal.returns-then-not-all_fine
returns-then-not-all_fine g c test says =
    let a = c.args in
    let e : c.all_fine.result ≡ all_of test (take a.room a.piece.now) =
    says _ _ c.all_fine.ensures ∙ ap (λ (n : ℕ). all_of test (take n a.piece.now)) c.min.ensures ∙ ap (λ (ws : List ℕ). all_of test ws) (take_min a.room a.piece.now)
    in
    rw (sym e ∙ c.if-not-all_fine.true)

pub returns-then-room-piece : goal.returns-then-room-piece
returns-then-room-piece g c test says =
    let a = c.args in
    let e : c.all_fine.result ≡ all_of test (take a.room a.piece.now) =
    says _ _ c.all_fine.ensures ∙ ap (λ (n : ℕ). all_of test (take n a.piece.now)) c.min.ensures ∙ ap (λ (ws : List ℕ). all_of test ws) (take_min a.room a.piece.now)
    in
    rw (sym e ∙ c.if-not-all_fine.false, lt-leb (length a.piece.now) a.room c.if-room-piece.true)

pub returns : goal.returns
returns g c test says =
    let a = c.args in
    let e : c.all_fine.result ≡ all_of test (take a.room a.piece.now) =
    says _ _ c.all_fine.ensures ∙ ap (λ (n : ℕ). all_of test (take n a.piece.now)) c.min.ensures ∙ ap (λ (ws : List ℕ). all_of test ws) (take_min a.room a.piece.now)
    in
    rw (sym e ∙ c.if-not-all_fine.false, le-leb (length a.piece.now) a.room c.if-room-piece.false)
