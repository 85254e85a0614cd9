-- Laws of the settings block: what is accepted, and what the rules bound.
use Prim.Native.Nat.{ℕ, ◌*◌, ◌≤◌}
use mathlib.Core.List.{List}
use mathlib.Core.Path.{◌≡◌, sym, ◌∙◌}
use mathlib.Core.Logic.{⊎_elim}
use native.Mathlib.Omega.{arith}
use native.Mathlib.Nat.{mul-le-mul}
use Rattle.std.specs.Prelude.{Result, Ok, Err}
use Rattle.lists.proofs.Decides.{choose-by, choose_no, choose_yes}
use Rattle.settings.specs.declared.Settings.{Settings}
use Rattle.settings.specs.declared.ParseError.{ParseError}
use Rattle.settings.specs.declared.ParseError.TheVariants as fault
use Rattle.settings.specs.Rules.{SlotSize, Valid, largest}
use Rattle.settings.specs.Decide.{valid?}
use Rattle.settings.specs.Block.{BlockFits, block_fits?, settings_of, parse}

-- ---- parsing accepts exactly the blocks that fit and whose numbers meet every rule

module _ (block : List ℕ) where
  pub parse-bad-block : (BlockFits block → ⊥) → parse block ≡ Err fault.Block
  unfolding parse
  parse-bad-block h = choose_no (block_fits? block) _ _ h

  pub parse-bad-field : BlockFits block → (Valid (settings_of block) → ⊥) → parse block ≡ Err fault.Field
  unfolding parse
  parse-bad-field f h = choose_yes (block_fits? block) _ _ f ∙ choose_no (valid? (settings_of block)) _ _ h

  pub parse-accepts : BlockFits block → Valid (settings_of block) → parse block ≡ Ok (settings_of block)
  unfolding parse
  parse-accepts f v = choose_yes (block_fits? block) _ _ f ∙ choose_yes (valid? (settings_of block)) _ _ v

  -- and nothing else is accepted
  pub record Accepts (st : Settings) : Type 0 where
    pub block-fits : BlockFits block
    pub is : st ≡ settings_of block
    pub valid : Valid st

  abbrev Only : Settings → Result Settings ParseError → Type 0
  Only st x = x ≡ Ok st → Accepts st

  pub parse-only : (st : Settings) → parse block ≡ Ok st → Accepts st
  unfolding parse
  parse-only st =
      choose-by (block_fits? block) _ _ (Only st) (λ _ e. absurd (let z : ◌≡◌ {A = ℕ} 0 1 = cc in omega arith)) λ f.
      choose-by (valid? (settings_of block)) _ _ (Only st) (λ _ e. absurd (let z : ◌≡◌ {A = ℕ} 0 1 = cc in omega arith)) λ v e.
      let same : settings_of block ≡ st = cc in record { block-fits = f; is = sym same; valid = rw (← same) v }

-- ---- what the rules bound

pub slot_size-le : (st : Settings) → SlotSize st → (4 ≤ st.slotSize) × (st.slotSize ≤ 8)
slot_size-le st s = ⊎_elim (λ (e : st.slotSize ≡ 4). omega arith) (λ (e : st.slotSize ≡ 8). omega arith) s

-- a product of bounded numbers
pub product_le : {m n a b : ℕ} → a ≤ m → b ≤ n → a * b ≤ m * n
product_le h k = mul-le-mul h k

pub record NoneLarger (st : Settings) : Type 0 where
  pub globalAt : st.globalAt ≤ largest
  pub segments : st.segments ≤ largest
  pub headerSize : st.headerSize ≤ largest
  pub slotSize : st.slotSize ≤ largest
  pub slots : st.slots ≤ largest
  pub keyBits : st.keyBits ≤ largest
  pub chunkBits : st.chunkBits ≤ largest
  pub lookupSize : st.lookupSize ≤ largest
  pub freeListSize : st.freeListSize ≤ largest
  pub innerOffset : st.innerOffset ≤ largest
  pub chunks : st.chunks ≤ largest
  pub chunkSize : st.chunkSize ≤ largest
  pub tierSize : st.tierSize ≤ largest
  pub bulkInner : st.bulkInner ≤ largest
  pub bulkTiers : st.bulkTiers ≤ largest
  pub bulkSize : st.bulkSize ≤ largest
  pub mostChunks : st.mostChunks ≤ largest

-- no field is larger than 16,777,216
pub none-larger : (st : Settings) → Valid st → NoneLarger st
none-larger st v = omega (arith, (slot_size-le st v.slotSize).1)
