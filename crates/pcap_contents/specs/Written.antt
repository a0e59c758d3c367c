-- Contents as a writer lays them out: each as a record, and the writer may differ behind it. Assumes nothing.
use Rattle.std.specs.Prelude.{List, [], ◌∷◌, ◌++◌, ℕ}

-- one says the record of a content, and next the writer behind it
unfoldable pub written_of : {W : Type 0} → (W → List ℕ → List ℕ) → (W → List ℕ → W) → W → List (List ℕ) → List ℕ
written_of one next w [] = []
written_of one next w (c ∷ cs) = one w c ++ written_of one next (next w c) cs
