-- Request A4: what a grow answered 0 leaves.
use Prim.Native.Nat.{ℕ, ◌<◌}
use mathlib.Core.List.{List}
use mathlib.Core.Path.{◌≡◌, refl, ap, sym, ◌∙◌, subst}
use mathlib.Core.Logic.{⊎_elim, ◌≢◌}
use mathlib.Core.Bool.{Bool, true, false}
use mathlib.Core.Option.{Option, none, some}
use native.Mathlib.Omega.{arith}
use lib.ListN.{length}
use Rattle.lists.specs.Cases.{same_or}
use Rattle.lists.specs.Lists.{first}
use Rattle.lists.proofs.SameLists.{same_first}
use Rattle.words.specs.Bytes.{Bytes, same, Apart}
use Rattle.settings.specs.Block.{settings_of}
use Rattle.layout.specs.declared.Shape.{Shape}
use Rattle.layout.specs.Tiers.{IsTier}
use Rattle.layout.specs.Places.{at, wide, mark}
use Rattle.layout.specs.Frame.{shape_of}
use Rattle.layout.proofs.Frames.{shape-settings}
use Rattle.chains.specs.Chains.{chain, last_tier, free_head, free_chain}
use Rattle.chains.proofs.Segments.{last-in}
use Rattle.chains.proofs.Tiers.{chain-tiers}
use Rattle.entries.specs.declared.Live.{Live}
use Rattle.entries.specs.Keys.{KeyFits, segment_of, key_fits?}
use Rattle.entries.specs.Stored.{key_of}
use Rattle.entries.specs.Live.{live}
use Rattle.entries.specs.Pairs.{Pair}
use Rattle.entries.proofs.Hashes.{segment-lt}
use Rattle.sound.specs.Sound.{SoundImage}
use Rattle.growing.specs.Growing.{grown, no_bulk, grow_image}
use Rattle.growing.proofs.Sound.{grow-sound, grow-chain, grow-free, grow-head, grow-live, grow-pair, grow-pairs, grow_last, grow-empty, grow-bits}
use Rattle.growing.proofs.Bytes.{get_or-grow-out}
use Rattle.image.specs.List.{pick, from_nth, from_examined, entry}
use Rattle.edit.specs.declared.Policy.{Policy}
use Rattle.edit.specs.Edits.{find}
use Rattle.edit.proofs.Roomy.{room-when-free}
use Rattle.std.specs.Prelude.{Ok}
use Rattle.chronicle_map.specs.declared.Located.TheVariants as looked
use Rattle.chronicle_map.specs.Calls.{end_in, search_end, from_find, lookup, Edited, answer_number, store, grow_unless, growing, grow}
use Rattle.chronicle_map.specs.History.{grows, leaves, map_of}
use Rattle.chronicle_map.specs.Demands.{shape, Accepted, Grown, Growth}
use Rattle.chronicle_map.proofs.Accepting.{Holds, accepted-holds, holds-ready, holds-accepted, shape-by, holds_by, map-by}
use Rattle.chronicle_map.proofs.Steps.{step}
use Rattle.chronicle_map.proofs.Refusing.{demand1}
use Rattle.chronicle_map.proofs.Altering.{lookup-is, lookup_misfit}
use Rattle.chronicle_map.proofs.Replacing.{not-10}

module _ (block img : List ℕ) (h : Holds block img) where
  abbrev z : Shape
  z = shape block img

  -- a grow on an accepted image, by whether there is room
  grow-by : (b : Bool) → no_bulk z (length img) ≡ b → grow block img ≡ grow_unless z img b
  unfolding grow growing
  grow-by b e = ap (growing img) (holds-ready block img h) ∙ ap (grow_unless z img) e

  module _ (room : no_bulk z (length img) ≡ false) where
    abbrev after : List ℕ
    after = grow_image z img

    after-sound : SoundImage (grown z) after
    after-sound = grow-sound z img h.sound room

    after_holds : Holds block after
    after_holds = holds_by h.block_fits (shape-settings (settings_of block) img) after-sound

    shape_is : grown z ≡ shape block after
    shape_is = shape-by h.block_fits (shape-settings (settings_of block) img) after-sound

    -- ---- lookups

    find-same : (key : List ℕ) → find (grown z) after key ≡ find z img key
    unfolding find
    find-same key =
        ap (λ (l : List Live). first l (λ e. same (key_of after e.entry) key)) (grow-live z img h.sound room)
        ∙ same_first (λ e. same (key_of after e.entry) key) (λ e. same (key_of img e.entry) key) (live z img)
        (λ e m. ap (λ (p : Pair). same p.key key) (grow-pair z img h.sound room e m))

    end_same : (key : List ℕ) → search_end (grown z) after key ≡ search_end z img key
    end_same key =
        let s : ℕ = segment_of z.settings key in
        let last : ℕ = last_tier z img s in
        let lt : s < z.settings.segments = segment-lt h.sound.fits.valid key in
        let is : IsTier z last = chain-tiers z img h.sound.fits.chains s lt last (last-in z img s lt) in
        ap (end_in (grown z) after key) (grow_last z img h.sound room s lt)
        ∙ ap (λ (j : ℕ). record { tier = last; slot = j }) (grow-empty z img h.sound room key last is)

    from-same : (key : List ℕ) (o : Option Live) → from_find (grown z) after key o ≡ from_find z img key o
    unfolding from_find
    from-same key none = ap looked.Absent (end_same key)
    from-same key (some e) = refl

    lookup-same : (key : List ℕ) → Dec (KeyFits z.settings key) → lookup block after key ≡ lookup block img key
    lookup-same key (no n) =
        lookup_misfit block after after_holds key (λ k. n (subst (λ (x : Shape). KeyFits x.settings key) (sym shape_is) k))
        ∙ sym (lookup_misfit block img h key n)
    lookup-same key (yes k) =
        lookup-is block after after_holds key (subst (λ (x : Shape). KeyFits x.settings key) shape_is k)
        ∙ ap (λ (x : Shape). Ok (from_find x after key (find x after key))) (sym shape_is)
        ∙ ap (λ (o : Option Live). Ok (from_find (grown z) after key o)) (find-same key)
        ∙ ap Ok (from-same key (find z img key))
        ∙ sym (lookup-is block img h key k)

    list_same : (n : ℕ) → entry block after n ≡ entry block img n
    unfolding entry from_examined
    list_same n =
        ap (from_examined after n) (holds-ready block after after_holds)
        ∙ ap (λ (l : List Live). from_nth (pick l n)) (ap (λ (x : Shape). live x after) (sym shape_is) ∙ grow-live z img h.sound room)
        ∙ sym (ap (from_examined img n) (holds-ready block img h))

    -- ---- a tier is free

    some-free : free_head (shape block after) after ≢ 0
    some-free e = omega (arith, ap (λ (x : Shape). free_head x after) shape_is, grow-head z img h.sound room, e)

    not_full : (policy : Policy) (key value : List ℕ) → answer_number (store policy block after key value).answer ≢ 10
    not_full policy key value =
        not-10 block after after_holds key value (room-when-free (shape block after) after after_holds.sound key value some-free) policy

    grow-image : (grow block img).image ≡ after
    unfolding grow_unless
    grow-image = ap (λ (x : Edited). x.image) (grow-by false room)

    all_grown : Grown block img after
    unfolding shape_of
    all_grown =
        record {
          accepted = holds-accepted block after after_holds;
          same_map = sym (map-by h.block_fits (shape-settings (settings_of block) img) after-sound) ∙ grow-pairs z img h.sound room;
          lookups = λ key. lookup-same key (key_fits? z.settings key);
          lists = list_same;
          one_more = sym shape_is;
          same_chains = λ s l. ap (λ (x : Shape). chain x after s) (sym shape_is) ∙ grow-chain z img h.sound room s l;
          free_tiers = ap (λ (x : Shape). free_chain x after) (sym shape_is) ∙ grow-free z img h.sound room;
          bytes_kept = λ i off. get_or-grow-out z img i (λ p w. subst (λ (x : Shape). Apart i 1 (at x p) (wide x p)) (sym shape_is) (off p w));
          bits_kept = λ t i new past within.
              ap (λ (x : Shape). mark x after t i) (sym shape_is) ∙ grow-bits z img h.sound room t i new past within
              ∙ ap (λ (x : Shape). mark x img t i) shape_is;
          not_full = not_full;
        }

  -- ---- all of it

  answer-by : (b : Bool) → no_bulk z (length img) ≡ b → answer_number (grow block img).answer ≡ answer_number (grow_unless z img b).answer
  answer-by b e = ap (λ (x : Edited). answer_number x.answer) (grow-by b e)

  grown-by : (b : Bool) → no_bulk z (length img) ≡ b → answer_number (grow block img).answer ≡ 0 → Grown block img (grow block img).image
  unfolding grow_unless
  grown-by true e a = absurd (omega (arith, a, answer-by true e))
  grown-by false e a = subst (Grown block img) (sym (grow-image e)) (all_grown e)

pub growth : (block img : List ℕ) → Bytes img → Accepted block img → Growth block img
unfolding grow_unless
growth block img b a =
    let h : Holds block img = accepted-holds block img b a in
    record {
      refused = answer-by block img h true;
      done = answer-by block img h false;
      grown = grown-by block img h (no_bulk (shape block img) (length img)) refl;
    }

-- ---- whatever it answers, the image is accepted and reads as the same map

pub record KeepsMap (block img after : List ℕ) : Type 0 where
  pub bytes : Bytes after
  pub accepted : Accepted block after
  pub same_map : map_of block after ≡ map_of block img

pub grow-keeps : (block img : List ℕ) → Bytes img → Accepted block img → KeepsMap block img (grow block img).image
unfolding leaves
grow-keeps block img b a =
    let after : Holds block (grow block img).image = (step block img (accepted-holds block img b a) (map_of block img) (λ F. refl) grows tt).holds in
    record {
      bytes = after.sound.bytes;
      accepted = holds-accepted block (grow block img).image after;
      same_map =
          ⊎_elim
          (λ z. ((growth block img b a).grown z).same_map)
          (λ ne. ap (map_of block) ((demand1 block img).grow_refused ne))
          (same_or (answer_number (grow block img).answer) 0);
    }
