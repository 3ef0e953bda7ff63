-- `listing::put_believed` meets its contract: what is believed of the bytes is listed.
use Rattle.nametable_list.proofs.listing.put_believed.Goals as goal

pub returns : goal.returns
returns c =
    record {
      value = rw c.believed_bytes.ensures at c.put_listing.ensures.value;
      out_after = rw c.believed_bytes.ensures at c.put_listing.ensures.out_after;
    }
