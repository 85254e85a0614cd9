-- Worked examples of the hash, proved by computing.
use Rattle.std.proofs.Common.{◌≡◌, ℕ, zero, suc, List, [], ◌∷◌, map, refl}
use Rattle.words.specs.Numbers.{le}
use Rattle.xxh64.specs.Hash.{round_of, stripe_of, lanes_of, sum_of, merge_of, converge_of, start_of, total_of, mix8_of, mix4_of, mix1_of, tail_of, rest_of, avalanche_of, xxh64}

-- opens every definition of the hash: `unfolding everything`
unfoldable pub everything : ℕ
unfolding le round_of stripe_of lanes_of sum_of merge_of converge_of start_of total_of mix8_of mix4_of mix1_of tail_of rest_of avalanche_of xxh64
everything = 0

-- the n bytes from b on, each one more than the byte before it
up_from : ℕ → ℕ → List ℕ
up_from b zero = []
up_from b (suc n) = b ∷ up_from (suc b) n

-- an input and its hash: nothing, "a", "abc", and the bytes 0 to 38 and 0 to 100
vectors : List (List ℕ × ℕ)
vectors =
    ([], 0xef46db3751d8e999) ∷ (97 ∷ [], 0xd24ec4f1a98c6e5b) ∷ (97 ∷ 98 ∷ 99 ∷ [], 0x44bc2cf5ad770999)
    ∷ (up_from 0 39, 0x00a396ef1679a859)
    ∷ (up_from 0 101, 0xe99038495f85381e)
    ∷ []

hashes : map (λ (v : List ℕ × ℕ). xxh64 v.0) vectors ≡ map (λ (v : List ℕ × ℕ). v.1) vectors
unfolding everything up_from vectors
hashes = refl
