-- What accepted parameter words give.
--
-- Main definition: `InRange`. Main statements: `in_range` (what 1 gives), `lookup_words` (the lookup mode answers for its words).
use Rattle.std.specs.Prelude.{◌≤◌, ℕ, eqb, leb, true, ◌≢◌, ◌≡◌, refl}
use borrow.Author.Tests.{eq-eqb, eqb-true, leb-true, ne_eqb}
use Rattle.std.proofs.Common.{◌∙◌, sym, arith}
use Rattle.std.proofs.Math.Decide.{ℕ_discrete}
use Rattle.base.specs.Pick.{pick, pick_no, pick_yes, pick-zero}
use Rattle.labels.specs.Ranges.{ranges_fit}
use Rattle.parameters.specs.Lookup.{flag_of, mode_of, share_of, width_of}
use Rattle.parameters.specs.Parameters.{lookup_of, range_number}
use Rattle.parameters.specs.declared.lookup.LookupParameters.{LookupParameters}
use Rattle.parameters.specs.declared.parameters.Parameters.{Parameters}

-- the parameters are in their ranges
pub record InRange (p : Parameters) : Type 0 where
  pub ranges : ranges_fit p.trace p.copy ≡ true
  pub allowed : p.allowed ≤ 16
  pub specialised : p.specialised ≤ 16
  pub variables : p.variables ≤ 1048576
  pub mode : p.mode ≤ 4
  pub share : p.share ≤ 1
  pub no_lookup : p.mode ≡ 0 → (p.width ≡ 0) × (p.share ≡ 0)
  pub some_width : p.mode ≢ 0 → (1 ≤ p.width) × (p.width ≤ 16)
  pub some_specialised : p.mode ≡ 4 → 1 ≤ p.specialised

-- the words of the lookup mode
pub record LookupFits (p : Parameters) : Type 0 where
  pub mode : p.mode ≤ 4
  pub share : p.share ≤ 1
  pub no_lookup : p.mode ≡ 0 → (p.width ≡ 0) × (p.share ≡ 0)
  pub some_width : p.mode ≢ 0 → (1 ≤ p.width) × (p.width ≤ 16)
  pub some_specialised : p.mode ≡ 4 → 1 ≤ p.specialised

module _ (p : Parameters) where
  abbrev none_range : ℕ
  none_range = pick (eqb p.width 0) (pick (eqb p.share 0) 0 1) 1

  abbrev special_range : ℕ
  special_range = pick (eqb p.mode 4) (pick (leb 1 p.specialised) 0 1) 0

  abbrev some_range : ℕ
  some_range = pick (leb p.mode 4) (pick (leb 1 p.width) (pick (leb p.width 16) (pick (leb p.share 1) special_range 1) 1) 1) 1

  special_fits : special_range ≡ 0 → p.mode ≡ 4 → 1 ≤ p.specialised
  special_fits e m =
      let a : ◌≡◌ {A = ℕ} (pick (leb 1 p.specialised) 0 1) 0 = rw (eq-eqb p.mode 4 m) at e in
      leb-true 1 p.specialised (pick-zero (leb 1 p.specialised) 0 1 (omega arith) a).0

  lookup-fits : pick (eqb p.mode 0) none_range some_range ≡ 0 → LookupFits p
  lookup-fits e = by (ℕ_discrete p.mode 0)
    where
      by : Dec (p.mode ≡ 0) → LookupFits p
      by (yes z) =
          let a : none_range ≡ 0 = sym (pick_yes (eqb p.mode 0) none_range some_range (eq-eqb p.mode 0 z)) ∙ e in
          let w = pick-zero (eqb p.width 0) _ 1 (omega arith) a in
          let s = pick-zero (eqb p.share 0) 0 1 (omega arith) w.1 in
          let ws : p.width ≡ 0 = eqb-true p.width 0 w.0 in
          let ss : p.share ≡ 0 = eqb-true p.share 0 s.0 in
          record {
            mode = omega arith;
            share = omega arith;
            no_lookup = λ y. (ws, ss);
            some_width = λ y. absurd (y z);
            some_specialised = λ y. absurd (omega arith);
          }
      by (no n) =
          let a : some_range ≡ 0 = sym (pick_no (eqb p.mode 0) none_range some_range (ne_eqb p.mode 0 n)) ∙ e in
          let m = pick-zero (leb p.mode 4) _ 1 (omega arith) a in
          let w = pick-zero (leb 1 p.width) _ 1 (omega arith) m.1 in
          let v = pick-zero (leb p.width 16) _ 1 (omega arith) w.1 in
          let s = pick-zero (leb p.share 1) special_range 1 (omega arith) v.1 in
          record {
            mode = leb-true p.mode 4 m.0;
            share = leb-true p.share 1 s.0;
            no_lookup = λ y. absurd (n y);
            some_width = λ y. (leb-true 1 p.width w.0, leb-true p.width 16 v.0);
            some_specialised = special_fits s.1;
          }

  pub in_range : range_number p ≡ 0 → InRange p
  unfolding range_number
  in_range e =
      let a = pick-zero (ranges_fit p.trace p.copy) _ 1 (omega arith) e in
      let b = pick-zero (leb p.allowed 16) _ 1 (omega arith) a.1 in
      let c = pick-zero (leb p.specialised 16) _ 1 (omega arith) b.1 in
      let d = pick-zero (leb p.variables 1048576) (pick (eqb p.mode 0) none_range some_range) 1 (omega arith) c.1 in
      let l = lookup-fits d.1 in
      record {
        ranges = a.0;
        allowed = leb-true p.allowed 16 b.0;
        specialised = leb-true p.specialised 16 c.0;
        variables = leb-true p.variables 1048576 d.0;
        mode = l.mode;
        share = l.share;
        no_lookup = l.no_lookup;
        some_width = l.some_width;
        some_specialised = l.some_specialised;
      }

-- a flag of 0 or 1 as a word
flag_word : (n : ℕ) → n ≤ 1 → flag_of (eqb n 1) ≡ n
flag_word n h = by (ℕ_discrete n 1)
  where
    by : Dec (n ≡ 1) → flag_of (eqb n 1) ≡ n
    by (yes e) = rw (eq-eqb n 1 e) (sym e)
    by (no e) = rw (ne_eqb n 1 e) (omega arith)

-- the lookup mode answers for its words
pub record LookupWords (p : Parameters) (q : LookupParameters) : Type 0 where
  pub mode : mode_of q ≡ p.mode
  pub width : width_of q ≡ p.width
  pub share : flag_of (share_of q) ≡ p.share

pub lookup_words : (p : Parameters) → InRange p → LookupWords p (lookup_of p)
unfolding lookup_of
lookup_words p w = by (ℕ_discrete p.mode 1) (ℕ_discrete p.mode 2) (ℕ_discrete p.mode 3) (ℕ_discrete p.mode 4)
  where
    s : flag_of (eqb p.share 1) ≡ p.share
    s = flag_word p.share w.share

    by : Dec (p.mode ≡ 1) → Dec (p.mode ≡ 2) → Dec (p.mode ≡ 3) → Dec (p.mode ≡ 4) → LookupWords p (lookup_of p)
    by (yes a) b c d = rw (eq-eqb p.mode 1 a) (record { mode = sym a; width = refl; share = s })
    by (no a) (yes b) c d = rw (ne_eqb p.mode 1 a, eq-eqb p.mode 2 b) (record { mode = sym b; width = refl; share = s })
    by (no a) (no b) (yes c) d = rw (ne_eqb p.mode 1 a, ne_eqb p.mode 2 b, eq-eqb p.mode 3 c) (record { mode = sym c; width = refl; share = s })
    by (no a) (no b) (no c) (yes d) =
        rw (ne_eqb p.mode 1 a, ne_eqb p.mode 2 b, ne_eqb p.mode 3 c, eq-eqb p.mode 4 d) (record { mode = sym d; width = refl; share = s })
    by (no a) (no b) (no c) (no d) =
        let z : p.mode ≡ 0 = omega (arith, w.mode) in
        let n = w.no_lookup z in
        rw (ne_eqb p.mode 1 a, ne_eqb p.mode 2 b, ne_eqb p.mode 3 c, ne_eqb p.mode 4 d)
        (record { mode = sym z; width = sym n.0; share = sym n.1 })
