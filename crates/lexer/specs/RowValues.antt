-- The rows of a value, and a loop that writes them one after another.
use Rattle.std.specs.Prelude.{◌≡◌, ℕ, ◌+◌, ◌<◌, ◌≤◌, min, List, ◌++◌, length, get_or, nat_le, ◌≢◌, slice_index_or, slice_set}
use Rattle.std.proofs.Common.{sym, ap, subst, ◌∙◌, arith, below_more, get_or-set_same, get_or-set_other}
use Rattle.std.proofs.lemmas.List.FromFn.{get_or-map-range_with_len, fill_by_all}
use Rattle.measures.specs.Law.{Keeps}
use Rattle.measures.specs.Reached.{reached_kept}
use Rattle.lexer.specs.Numbers.{number_of, number_bound}
use Rattle.lexer.specs.Reading.{read_from, reading, row_at}
use Rattle.lexer.specs.declared.tokens.TokenRow.{TokenRow}
use Rattle.lexer.specs.RowSteps.{start}
use Rattle.lexer.specs.RowJoins.{after_read}

pub row_read : (bs : List ℕ) (s : ℕ) (d : TokenRow) → s < 13 → slice_index_or (reading bs) s d ≡ read_from s bs
row_read bs s d h = get_or-map-range_with_len (λ s. read_from s bs) 0 13 s s d h (omega arith)

pub row_at_lem : (v : List TokenRow) (bs : List ℕ) (s : ℕ) → s ≤ 12 → v ≡ reading bs → row_at v s ≡ read_from s bs
row_at_lem v bs s h e =
    ap (λ w. row_at w s) e ∙ ap (λ n. get_or (reading bs) n (start 0)) (min_is s h) ∙ row_read bs s (start 0) (omega arith)
  where
    min_is : (s : ℕ) → s ≤ 12 → min s 12 ≡ s
    min_is s h = omega arith

pub row_last : (bs : List ℕ) (s : ℕ) → row_at (reading bs) s ≡ read_from (min s 12) bs
row_last bs s = row_read bs (min s 12) (start 0) (omega arith)

-- reading on begins no fewer tokens and leaves no fewer strays
pub tokens_grow : (s : ℕ) (xs ys : List ℕ) → (row_at (reading xs) s).tokens ≤ (row_at (reading (xs ++ ys)) s).tokens
tokens_grow s xs ys =
    omega (arith, ap (λ (r : TokenRow). r.tokens) (after_read (min s 12) xs ys), ap (λ (r : TokenRow). r.tokens) (row_last xs s), ap (λ (r : TokenRow). r.tokens) (row_last (xs ++ ys) s))

pub strays_grow : (s : ℕ) (xs ys : List ℕ) → (row_at (reading xs) s).strays ≤ (row_at (reading (xs ++ ys)) s).strays
strays_grow s xs ys =
    omega (arith, ap (λ (r : TokenRow). r.strays) (after_read (min s 12) xs ys), ap (λ (r : TokenRow). r.strays) (row_last xs s), ap (λ (r : TokenRow). r.strays) (row_last (xs ++ ys) s))

-- so that once there are so many, there are in every longer list
pub tokens_kept : (s n : ℕ) → Keeps (λ _. 1) reading (λ v. nat_le n (row_at v s).tokens)
tokens_kept s n = reached_kept (λ (v : List TokenRow). (row_at v s).tokens) (tokens_grow s) n

pub strays_kept : (s n : ℕ) → Keeps (λ _. 1) reading (λ v. nat_le n (row_at v s).strays)
strays_kept s n = reached_kept (λ (v : List TokenRow). (row_at v s).strays) (strays_grow s) n

-- the row at the state where another row ends
pub row_next : (v : List TokenRow) (s : ℕ) (xs ys : List ℕ) (r : TokenRow) → s ≤ 12 → r ≡ read_from s xs → v ≡ reading ys → row_at v (number_of r.state) ≡ read_from (number_of r.state) ys
row_next v s xs ys r h e f = row_at_lem v ys (number_of r.state) (number_bound r.state) f

-- a loop that writes the rows one after another
pub rows_more : (P : ℕ → TokenRow → Type 0) (r : TokenRow) (rows : List TokenRow) (i : ℕ) → i < length rows
    → ((k : ℕ) → k < i → P k (slice_index_or rows k (start 0))) → P i r → (k : ℕ) → k < i + 1 → P k (slice_index_or (slice_set rows i r) k (start 0))
rows_more P r rows i lt below here =
    below_more (λ k. P k (slice_index_or (slice_set rows i r) k (start 0))) i
    (λ k h. subst (P k) (sym (get_or-set_other rows i k r (start 0) (apart k h))) (below k h))
    (subst (P i) (sym (get_or-set_same rows i r (start 0) lt)) here)
  where
    apart : (k : ℕ) → k < i → k ≢ i
    apart k h e = omega arith

-- and leaves those after
pub rows_after : (r : TokenRow) (rows old : List TokenRow) (i : ℕ) → ((k : ℕ) → i ≤ k → slice_index_or rows k (start 0) ≡ slice_index_or old k (start 0))
    → (k : ℕ) → i + 1 ≤ k → slice_index_or (slice_set rows i r) k (start 0) ≡ slice_index_or old k (start 0)
rows_after r rows old i kept k h = get_or-set_other rows i k r (start 0) (apart k h) ∙ kept k (omega arith)
  where
    apart : (k : ℕ) → i + 1 ≤ k → k ≢ i
    apart k h e = omega arith

pub rows_all : (bs : List ℕ) (rows : List TokenRow) → length rows ≡ 13 → ((k : ℕ) → k < 13 → slice_index_or rows k (start 0) ≡ read_from k bs) → rows ≡ reading bs
rows_all bs rows len each = fill_by_all (λ s. read_from s bs) rows 13 (start 0) len each
