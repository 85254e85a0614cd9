-- The frame of the image: refusal 4.
use Rattle.std.specs.Prelude.{ℕ, ◌+◌, ◌^◌, ◌≤◌, ◌<◌, List, ◌≡◌, length, Option, Some, None}
use Rattle.std.proofs.Math.Decide.{dec_le, ℕ_discrete}
use Rattle.lists.specs.Decide.{rule, choose}
use Rattle.words.specs.Bytes.{Bytes}
use Rattle.words.specs.Numbers.{le}
use Rattle.settings.specs.declared.Settings.{Settings}
use Rattle.settings.specs.Rules.{Between, largest, Valid}
use Rattle.settings.specs.Decide.{between?}
use Rattle.layout.specs.declared.Shape.{Shape}
use Rattle.layout.specs.Tiers.{tiers, store_end, IsTier}
use Rattle.layout.specs.declared.Global.TheVariants.{StoreSize as storeSize}
use Rattle.layout.specs.Places.{get, global}

-- the headers offset and the bulk count as the global state has them
unfoldable pub shape_of : Settings → List ℕ → Shape
shape_of st img = record { settings = st; headers = le img (st.globalAt + 21) 4; bulks = le img (st.globalAt + 8) 3 }

-- the bytes of the global state, and the most tiers of an image
abbrev pub global_size : ℕ
global_size = 33

abbrev pub most_tiers : ℕ
most_tiers = 1024

pub record FrameFits (z : Shape) (img : List ℕ) : Type 0 where
  pub image_length : Between (z.settings.globalAt + global_size) largest (length img)
  pub headers_after : z.settings.globalAt + global_size ≤ z.headers
  pub tier_count : tiers z ≤ most_tiers
  pub store_size_is : get z img (global storeSize) ≡ store_end z
  pub store_within : store_end z ≤ length img

unfoldable pub frame_fits? : (z : Shape) (img : List ℕ) → Dec (FrameFits z img)
frame_fits? z img =
    rule (λ f. f.image_length) (between? (z.settings.globalAt + global_size) largest (length img)) λ a.
    rule (λ f. f.headers_after) (dec_le (z.settings.globalAt + global_size) z.headers) λ b.
    rule (λ f. f.tier_count) (dec_le (tiers z) most_tiers) λ c.
    rule (λ f. f.store_size_is) (ℕ_discrete (get z img (global storeSize)) (store_end z)) λ d.
    rule (λ f. f.store_within) (dec_le (store_end z) (length img)) λ e.
    yes (record { image_length = a; headers_after = b; tier_count = c; store_size_is = d; store_within = e })

-- what the settings' rules and the fields' widths bound in any image, so that sums and products fit
pub record Bounded (z : Shape) : Type 0 where
  pub valid : Valid z.settings
  pub headers : z.headers < 2 ^ 32
  pub bulks : z.bulks < 2 ^ 24

-- ---- the answer

unfoldable pub frame_of : Settings → List ℕ → Option Shape
frame_of st img = choose (frame_fits? (shape_of st img) img) (λ _. None) (λ _. Some (shape_of st img))

-- ---- an image whose frame fits

-- what a fitting frame says of settings and length alone: every place lies within an image of this length
pub record Framed (z : Shape) (len : ℕ) : Type 0 where
  pub valid : Valid z.settings
  pub headers_after : z.settings.globalAt + global_size ≤ z.headers
  pub tier_count : tiers z ≤ most_tiers
  pub within : store_end z ≤ len
  pub small : len ≤ largest

-- bytes that hold the store
pub record Image (z : Shape) (img : List ℕ) : Type 0 where
  pub bytes : Bytes img
  pub framed : Framed z (length img)

-- the n chunks from c on
pub record HasChunks (z : Shape) (len t c n : ℕ) : Type 0 where
  pub framed : Framed z len
  pub tier : IsTier z t
  pub within : c + n ≤ z.settings.chunks
