-- The two layers of the box: the order layer knows packet sizes only, the store layer also moves the packet bytes. Each has two faces: methods that take a
-- state and hand it back, and the calls for firmware, which change an image in place.
use Rattle.std.specs.Prelude.{ℕ, ◌≡◌, List, length, replicate}
use Rattle.model.specs.Model.{flow_at, new_scheduler}
use Rattle.model.specs.OrderCalls.{order_calls, sizes_of, packets_of}
use Rattle.order.specs.Encoding.{Sound}
use Rattle.order.specs.Promised as Order
use Rattle.order.specs.Runs as OrderCode
use Rattle.order.specs.State.{State}
use Rattle.store.specs.Slots.{store_length}
use Rattle.store.specs.Promised.{SoundSite}
use Rattle.store.specs.Promised as Store
use Rattle.store.specs.StoreCalls.{WithStore, with_store, store_calls, bytes_of, waiting_bytes}
use Rattle.store.specs.Runs as StoreCode
use Rattle.store.specs.Site.{Site}
use Rattle.image.specs.Image.{image_length, SoundImage}
use Rattle.houghbreeze.specs.Runs as Firmware
use Rattle.demands.specs.Demands.{Layer}

abbrev pub order_layer : Layer
order_layer =
    record {
      kind = order_calls;
      State = State;
      Does = OrderCode.Does;
      New = λ c s. Order.NewGives c × (s ≡ new_scheduler);
      Premise = Sound;
      Load = ℕ;
      accepted = sizes_of;
      left = λ f l. sizes_of f (packets_of l);
      waiting = λ f s. (flow_at s f).queue;
    }

-- The store may hold anything at first.
abbrev pub store_layer : Layer
store_layer =
    record {
      kind = store_calls;
      State = WithStore Site;
      Does = StoreCode.Does;
      New = λ c s. Store.NewGives c.keeper × (s ≡ with_store new_scheduler c.store) × (length c.store ≡ store_length);
      Premise = λ c. SoundSite c.keeper;
      Load = List ℕ;
      accepted = bytes_of;
      left = bytes_of;
      waiting = λ f s. waiting_bytes s.keeper s.store f;
    }

-- The calls for firmware begin on an image of zeros.
abbrev pub firmware_order_layer : Layer
firmware_order_layer =
    record {
      kind = order_calls;
      State = List ℕ;
      Does = Firmware.Does;
      New = λ i s. (i ≡ replicate image_length 0) × (s ≡ new_scheduler);
      Premise = SoundImage;
      Load = ℕ;
      accepted = sizes_of;
      left = λ f l. sizes_of f (packets_of l);
      waiting = λ f s. (flow_at s f).queue;
    }

abbrev pub firmware_store_layer : Layer
firmware_store_layer =
    record {
      kind = store_calls;
      State = WithStore (List ℕ);
      Does = Firmware.SiteDoes;
      New = λ i s. (i.keeper ≡ replicate image_length 0) × (s ≡ with_store new_scheduler i.store) × (length i.store ≡ store_length);
      Premise = λ i. SoundImage i.keeper;
      Load = List ℕ;
      accepted = bytes_of;
      left = bytes_of;
      waiting = λ f s. waiting_bytes s.keeper s.store f;
    }
