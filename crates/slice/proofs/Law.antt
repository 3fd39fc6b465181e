-- What the transform and the quantiser ensure, and what follows for a plane's blocks and streams.
use mathlib.Core.Path.{◌≡◌, ◌∙◌}
use mathlib.Core.List.{List, [], ◌∷◌, map}
use Prim.Native.Nat.{ℕ, zero, suc, ◌*◌, ◌≤◌, ◌<◌, suc-le-suc}
use native.Mathlib.Omega.{arith}
use lib.IntN.{ℤ, pos, nat_abs}
use lib.ListN.{length, get_or, length-append}
use Rattle.scalar.specs.Tab.{tab, tab_from}
use Rattle.scalar.proofs.Fill.{length_tab}
use Rattle.fdct.specs.Forward.{forward_of}
use Rattle.fdct.proofs.Coefficients.{forward_fits}
use Rattle.quant.specs.Quantise.{quantise_of, scan_of}
use Rattle.quant.proofs.Blocks.{scan_length}
use Rattle.quant.proofs.Bounds.{scanned_bound, scanned_last}
use Rattle.ask.specs.Limits.{preset_max, shift_max, dc_block_bytes, ac_block_bytes}
use Rattle.calls.specs.Arguments.{Depth, is_ten, Settings, Plane}
use Rattle.calls.specs.Streams.{dc_of, dc_stream, ac_stream}
use Rattle.calls.specs.Grid.{columns_of, blocks_of, level}
use Rattle.slice.specs.Plane.{lanes_at, block_coefficients, coefficients_at, coefficients}
use Rattle.calls.proofs.PlaneBack.{Blocks64}
use Rattle.calls.proofs.Size.{AtMost}
use Rattle.calls.proofs.Fits.{Quantised, AllQuantised, all_append, blocks_64, dcs_at_most}
use Rattle.calls.proofs.Fits as fits

at_most_list : (b : ℕ) (l : List ℤ) → ((i : ℕ) → i < length l → nat_abs (get_or l i (pos 0)) ≤ b) → AtMost b l
at_most_list b [] h = tt
at_most_list b (c ∷ l) h = (h 0 (omega arith), at_most_list b l (λ i k. h (suc i) (suc-le-suc k)))

-- of the real transform and quantiser
pub quantised : (depth : Depth) (preset : ℕ) (p : Plane) (j k : ℕ) → preset ≤ preset_max → Quantised (block_coefficients depth preset p j k)
unfolding block_coefficients
quantised depth preset p j k h =
    record {
      sixty_four = scan_length Q;
      at_most = at_most_list 2048 (scan_of Q) (λ i l. scanned_bound preset (omega arith) L (forward_fits (is_ten depth) (level depth p.place) (lanes_at depth p j k)) i (omega (arith, scan_length Q)));
      last = scanned_last preset (omega arith) L (forward_fits (is_ten depth) (level depth p.place) (lanes_at depth p j k));
    }
  where
    L : List ℤ
    L = forward_of (is_ten depth) (level depth p.place) (lanes_at depth p j k)

    Q : List ℤ
    Q = quantise_of preset L

module _ (σ : Settings) (p : Plane) (preset_le : σ.preset ≤ preset_max) where
  row_quantised : (j k n : ℕ) → AllQuantised (tab_from (block_coefficients σ.depth σ.preset p j) k n)
  unfolding tab_from
  row_quantised j k zero = tt
  row_quantised j k (suc n) = (quantised σ.depth σ.preset p j k preset_le, row_quantised j (suc k) n)

  pub plane_quantised : AllQuantised (coefficients σ p)
  unfolding coefficients_at
  plane_quantised =
      all_append (tab (columns_of p.stride) (block_coefficients σ.depth σ.preset p 0)) (tab (columns_of p.stride) (block_coefficients σ.depth σ.preset p 1)) (row_quantised 0 0 (columns_of p.stride)) (row_quantised 1 0 (columns_of p.stride))

  pub blocks_fit : Blocks64 (coefficients σ p)
  blocks_fit = blocks_64 (coefficients σ p) plane_quantised

  pub dcs_small : AtMost 2048 (map dc_of (coefficients σ p))
  dcs_small = dcs_at_most (coefficients σ p) plane_quantised

  pub count_is : length (coefficients σ p) ≡ blocks_of p.stride
  unfolding coefficients_at
  count_is =
      length-append (tab (columns_of p.stride) (block_coefficients σ.depth σ.preset p 0)) (tab (columns_of p.stride) (block_coefficients σ.depth σ.preset p 1))
      ∙ (omega (arith, length_tab (columns_of p.stride) (block_coefficients σ.depth σ.preset p 0), length_tab (columns_of p.stride) (block_coefficients σ.depth σ.preset p 1)))

  pub dc_fits : σ.shift ≤ shift_max → length (dc_stream σ.shift (coefficients σ p)) ≤ dc_block_bytes * blocks_of p.stride
  dc_fits h = fits.dc_fits (coefficients σ p) plane_quantised p.stride count_is σ.shift h

  pub ac_fits : length (ac_stream (coefficients σ p)) ≤ ac_block_bytes * blocks_of p.stride
  ac_fits = fits.ac_fits (coefficients σ p) plane_quantised p.stride count_is
