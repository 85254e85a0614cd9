-- Request A14: lookups, stores of both kinds and removals on two accepted images that read as the same map.
use Prim.Native.Nat.{ℕ}
use mathlib.Core.List.{List, [], ◌∷◌, Memᴰ}
use mathlib.Core.Path.{◌≡◌, refl, sym, ◌∙◌, subst}
use mathlib.Core.Logic.{◌≢◌}
use Rattle.lists.specs.Quantify.{Every, every-cons, every-none}
use Rattle.settings.specs.Block.{settings_of}
use Rattle.chronicle_map.specs.History.{Call, grows, Said, leaves, told_of, map_of, Recalled, recall}
use Rattle.chronicle_map.specs.Demands.{ByteCall, ByteCalls, shape}
use Rattle.chronicle_map.proofs.Accepting.{Holds, accepted-holds, holds-accepted}
use Rattle.chronicle_map.proofs.Altering.{same-get}
use Rattle.chronicle_map.proofs.Steps.{Step, step}
use Rattle.same_map.specs.SameAnswers.{store_calls, SameMapSameAnswers}
use Rattle.same_map.proofs.Maps.{SameRecords, Together, recalled}
use Rattle.same_map.proofs.Runs.{KeepsAlike, both}

module _ (block : List ℕ) where
  -- the map's answer to a call, where the map is what the image reads as
  abbrev after_call : Call → List ℕ → Recalled
  after_call c img = recall (settings_of block) (map_of block img) c (told_of block img c)

  module _ (c : Call) (bytes : ByteCall c) (img : List ℕ) (h : Holds block img) where
    stepped : Step block img h (map_of block img) (λ F. refl) c
    stepped = step block img h (map_of block img) (λ F. refl) c bytes

    reads : SameRecords (map_of block (leaves block img c)) (after_call c img).map
    reads = same-get (shape block (leaves block img c)) (leaves block img c) stepped.holds.sound (after_call c img).map stepped.weighs

  -- a call that is no grow
  pub one-call : (c : Call) → ByteCall c → c ≢ grows → KeepsAlike (store_calls block) block c
  one-call c bytes g one other alike no10 no10' =
      record {
        said = s.said ∙ t.said ∙ sym s'.said;
        alike =
            record {
              one_bytes = s.holds.sound.bytes;
              other_bytes = s'.holds.sound.bytes;
              one_accepted = holds-accepted block (leaves block one c) s.holds;
              other_accepted = holds-accepted block (leaves block other c) s'.holds;
              same_map = λ key. reads c bytes one h key ∙ t.maps key ∙ sym (reads c bytes other h' key);
            };
      }
    where
      h : Holds block one
      h = accepted-holds block one alike.one_bytes alike.one_accepted

      h' : Holds block other
      h' = accepted-holds block other alike.other_bytes alike.other_accepted

      s : Step block one h (map_of block one) (λ F. refl) c
      s = stepped c bytes one h

      s' : Step block other h' (map_of block other) (λ F. refl) c
      s' = stepped c bytes other h'

      t : Together (after_call c one) (after_call c other)
      t =
          recalled (map_of block one) (map_of block other) alike.same_map (settings_of block) c g (told_of block one c) (told_of block other c)
          (record {
            one = subst (λ (x : Said). x.number ≢ 10) s.said no10;
            other = subst (λ (x : Said). x.number ≢ 10) s'.said no10';
          })

-- keys and records that are given are bytes, so those of each call
each-bytes : (calls : List Call) → ByteCalls calls → Every calls ByteCall
each-bytes [] bytes = every-none ByteCall
each-bytes (c ∷ cs) bytes = every-cons ByteCall c cs bytes.0 (each-bytes cs bytes.1)

-- ---- the theorem

pub same-map-same-answers : SameMapSameAnswers
same-map-same-answers block one other alike calls bytes noGrow =
    both (store_calls block) block calls
    (λ c m. one-call block c (each-bytes calls bytes c m) (λ (e : c ≡ grows). noGrow (subst (λ (x : Call). Memᴰ x calls) e m))) one other alike
